-- The 64 bytes of a record, put one behind the other. Assumes nothing.
use mathlib.Core.Path.{◌≡◌, refl, sym, ap, ◌∙◌}
use Prim.Native.Nat.{ℕ, ◌≤◌}
use mathlib.Core.List.{List, [], ◌∷◌, ◌++◌}
use mathlib.Core.Bool.{Bool, cond, false, true}
use native.Mathlib.Omega.{arith}
use lib.Dec.{leb}
use lib.ListN.{get_or, length, length-append}
use borrow.Author.Tests.{leb-false, leb-true}
use Rattle.bytes_be.specs.Number.{to_bytes}
use Rattle.bytes_be.specs.Part.{put_at}
use Rattle.bytes_be.proofs.Parts.{put_then, put_none}
use Rattle.endpoint.specs.declared.Endpoint.{Endpoint}
use Rattle.endpoint.specs.Block.{head_bytes, bytes_of}

pub length_head : (e : Endpoint) → length (head_bytes e) ≡ 16
unfolding head_bytes to_bytes
length_head e = refl

pub length_block : (e : Endpoint) → length e.entries ≡ 48 → length (bytes_of e) ≡ 64
unfolding bytes_of
length_block e full = length-append (head_bytes e) e.entries ∙ omega (arith, length_head e)

-- a block after each store behind the first four bytes

abbrev pub with_counts : List ℕ → Endpoint → List ℕ → List ℕ
with_counts told e block = put_at block 4 (get_or told 0 0 ∷ get_or told 1 0 ∷ e.unconfirmed ∷ 0 ∷ [])

abbrev pub with_limit : Endpoint → List ℕ → List ℕ
with_limit e block = put_at block 8 (to_bytes 4 e.limit)

abbrev pub with_last : List ℕ → List ℕ
with_last block = put_at block 12 (to_bytes 4 0)

-- the first 16 bytes, where n was told in two
pub stored_head : (block : List ℕ) (e : Endpoint) (told : List ℕ) → 64 ≤ length block → told ≡ to_bytes 2 e.n →
    with_last (with_limit e (with_counts told e (put_at block 0 (e.role ∷ e.flow ∷ e.phase ∷ e.w ∷ [])))) ≡ put_at block 0 (head_bytes e)
unfolding head_bytes to_bytes
stored_head block e told room same =
    let first : List ℕ = e.role ∷ e.flow ∷ e.phase ∷ e.w ∷ [] in
    let counts : List ℕ → List ℕ = λ n. get_or n 0 0 ∷ get_or n 1 0 ∷ e.unconfirmed ∷ 0 ∷ [] in
    let front : List ℕ = first ++ counts (to_bytes 2 e.n) in
    ap (λ (n : List ℕ). with_last (with_limit e (with_counts n e (put_at block 0 first)))) same
    ∙ ap (λ (l : List ℕ). with_last (with_limit e l)) (put_then block 0 first (counts (to_bytes 2 e.n)) 4 refl (omega arith))
    ∙ ap with_last (put_then block 0 front (to_bytes 4 e.limit) 8 refl (omega arith))
    ∙ put_then block 0 (front ++ to_bytes 4 e.limit) (to_bytes 4 0) 12 refl (omega arith)

-- and the entries behind them: the whole block, or nothing of it
pub stored_whole : (block : List ℕ) (e : Endpoint) → length e.entries ≡ 48 →
    put_at (cond (leb 64 (length block)) (put_at block 0 (head_bytes e)) block) 16 e.entries ≡ put_at block 0 (bytes_of e)
unfolding bytes_of
stored_whole block e full = go (leb 64 (length block)) refl
  where
    go : (t : Bool) → leb 64 (length block) ≡ t → put_at (cond t (put_at block 0 (head_bytes e)) block) 16 e.entries ≡ put_at block 0 (bytes_of e)
    go true room =
        put_then block 0 (head_bytes e) e.entries 16 (omega (arith, length_head e)) (omega (arith, full, leb-true 64 (length block) room))
    go false short =
        put_none block 16 e.entries (omega (arith, full, leb-false 64 (length block) short))
        ∙ sym (put_none block 0 (bytes_of e) (omega (arith, length_block e full, leb-false 64 (length block) short)))
