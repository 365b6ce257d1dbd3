-- The confirmations awaited are a queue: an ask adds one at its end, and the oldest is the first to go. Assumes nothing.
use mathlib.Core.Path.{◌∙◌, ◌≡◌, ap, ap₂, refl}
use Prim.Native.Nat.{◌*◌, ◌+◌, ◌-◌, ◌<◌, ◌^◌, suc, zero, ℕ}
use mathlib.Core.List.{List, [], ◌++◌, ◌∷◌}
use native.Mathlib.Omega.{arith}
use lib.ListN.{drop, length}
use borrow.Author.Tests.{lt-ltb}
use Rattle.bytes_be.specs.Part.{put_at, tabulate}
use Rattle.bytes_be.proofs.Parts.{tabulate_more, tabulate_same}
use Rattle.endpoint.specs.declared.Endpoint.{Endpoint}
use Rattle.endpoint.specs.declared.Entry.{Entry}
use Rattle.endpoint.specs.Record.{asked, at_phase, awaited, capacity, closed, confirmed, entry_at, entry_bytes, fresh_of, limited, oldest, without_entry}
use Rattle.endpoint.proofs.Entries.{entry_put, kept_before, moved_up}

-- without the oldest, the first W - 1 are all but the first of the first W
without_first : (w : ℕ) (entries : List ℕ) → length entries ≡ 48 →
    tabulate 0 (w - 1) (entry_at (without_entry entries 0)) ≡ drop 1 (tabulate 0 w (entry_at entries))
without_first zero entries full = refl
without_first (suc k) entries full =
    let one_less : suc k - 1 ≡ k = omega arith in
    ap (λ (w : ℕ). tabulate 0 w (entry_at (without_entry entries 0))) one_less
    ∙ tabulate_same (entry_at (without_entry entries 0)) (entry_at entries) 0 1 k
    (λ i h. let here : 0 + i ≡ i = omega arith in
    let next : suc i ≡ 1 + i = omega arith in
    ap (entry_at (without_entry entries 0)) here ∙ moved_up entries 0 full (omega arith) i (omega arith) ∙ ap (entry_at entries) next)

first_awaited : (w : ℕ) (entries : List ℕ) → 0 < w → tabulate 0 w (entry_at entries) ≡ entry_at entries 0 ∷ drop 1 (tabulate 0 w (entry_at entries))
first_awaited zero entries any = absurd (omega arith)
first_awaited (suc k) entries any = refl

-- a fresh endpoint awaits nothing
pub fresh_awaited : (role flow limit : ℕ) → awaited (fresh_of role flow limit) ≡ []
unfolding fresh_of
fresh_awaited role flow limit = refl

module _ (e : Endpoint) where
  -- and neither does one that is closed
  pub closed_awaited : awaited (closed e) ≡ []
  unfolding closed
  closed_awaited = refl

  -- another phase changes nothing of it
  pub phase_awaited : (phase n : ℕ) → awaited (at_phase e phase n) ≡ awaited e
  unfolding at_phase
  phase_awaited phase n = refl

  -- and neither does another limit
  pub limited_awaited : (limit : ℕ) → awaited (limited e limit) ≡ awaited e
  unfolding limited
  limited_awaited limit = refl

  -- an ask adds its entry behind those awaited, where its type-data has two bytes
  pub asked_awaited : length e.entries ≡ 48 → (entry : Entry) → entry.type_data < 256 ^ 2 → e.w < 16 →
      awaited (asked e entry) ≡ awaited e ++ (entry ∷ [])
  unfolding asked
  asked_awaited full entry two room =
      let put : List ℕ = put_at e.entries (3 * e.w) (entry_bytes entry) in
      let last : 0 + e.w ≡ e.w = omega arith in
      simp (lt-ltb e.w capacity room)
      (tabulate_more (entry_at put) 0 e.w
      ∙ ap₂ (λ (front : List Entry) (added : Entry). front ++ (added ∷ []))
      (tabulate_same (entry_at put) (entry_at e.entries) 0 0 e.w (λ i h. kept_before e.entries full e.w room entry (0 + i) (omega arith)))
      (ap (entry_at put) last ∙ entry_put e.entries full e.w room entry two))

  -- what is confirmed is the oldest, and the others are left
  pub confirmed_awaited : length e.entries ≡ 48 → awaited (confirmed e) ≡ drop 1 (awaited e)
  unfolding confirmed
  confirmed_awaited full = without_first e.w e.entries full

  -- the oldest is the first of those awaited
  pub oldest_awaited : 0 < e.w → awaited e ≡ oldest e ∷ drop 1 (awaited e)
  oldest_awaited any = first_awaited e.w e.entries any
