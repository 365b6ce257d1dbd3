-- The entries as bytes: which three an entry is read from, and where it stands after an ask and without another. Assumes nothing.
use mathlib.Core.Path.{◌≡◌, refl, sym, ap, ap₂, ◌∙◌}
use Prim.Native.Nat.{ℕ, zero, suc, ◌+◌, ◌*◌, ◌/◌, ◌%◌, ◌^◌, ◌≤◌, ◌<◌}
use mathlib.Core.List.{List, [], ◌∷◌, ◌++◌, append_assoc, append-nil}
use mathlib.Core.Bool.{Bool, ◌&&◌, false, true}
use native.Mathlib.Nat.{add-zero}
use native.Mathlib.Omega.{arith}
use lib.Dec.{eqb, ltb}
use lib.ListN.{length, get_or, take, drop, set, replicate, length-append, length-drop, drop_of_length-le, take-append-drop, get_or-eq_default}
use lib.Seq.{drop-drop, get_or-drop, length-take-le, take_all, take_at}
use borrow.Author.Tests.{eq-eqb, eqb-true, eqb-false, ne_eqb, ltb-false, ltb-true}
use Rattle.bytes_be.specs.Number.{to_bytes}
use Rattle.bytes_be.specs.Part.{part, put_at}
use Rattle.bytes_be.proofs.Filled.{copy_more}
use Rattle.bytes_be.proofs.Numbers.{Bytes, byte_there, two_there, number_past}
use Rattle.bytes_be.proofs.Parts.{length_put, put_before, put_behind, put_inside, put_sets}
use Rattle.endpoint.specs.declared.Entry.{Entry}
use Rattle.endpoint.specs.Record.{capacity, entry_at, entry_bytes, every, is_none, without_entry}

-- the entry of three bytes
abbrev pub entry_from : ℕ → ℕ → ℕ → Entry
entry_from message high low = record { message = message; type_data = high * 256 + low }

-- behind the sixteenth there is none
pub entry_past : (s : List ℕ) → length s ≡ 48 → (i : ℕ) → 16 ≤ i → entry_at s i ≡ entry_from 0 0 0
unfolding entry_at
entry_past s full i h =
    λ j. record { message = number_past 1 s (3 * i) (omega arith) j; type_data = number_past 2 s (3 * i + 1) (omega arith) j }

-- an entry is read from its three bytes, also there
pub entry_read : (s : List ℕ) → length s ≡ 48 → (i : ℕ) → entry_at s i ≡ entry_from (get_or s (3 * i) 0) (get_or s (3 * i + 1) 0) (get_or s (3 * i + 2) 0)
unfolding entry_at
entry_read s full i = go (ltb i capacity) refl
  where
    next : 3 * i + 1 + 1 ≡ 3 * i + 2
    next = omega arith

    go : (t : Bool) → ltb i capacity ≡ t → entry_at s i ≡ entry_from (get_or s (3 * i) 0) (get_or s (3 * i + 1) 0) (get_or s (3 * i + 2) 0)
    go true inside =
        let h : i < 16 = ltb-true i capacity inside in
        let last = two_there s (3 * i + 1) (omega arith) ∙ ap (λ (k : ℕ). get_or s (3 * i + 1) 0 * 256 + get_or s k 0) next in
        λ j. record { message = byte_there s (3 * i) (omega arith) j; type_data = last j }
    go false outside =
        let h : 16 ≤ i = ltb-false i capacity outside in
        let none : (k : ℕ) → 3 * i ≤ k → 0 ≡ get_or s k 0 = λ k behind. sym (get_or-eq_default s 0 {n = k} (omega arith)) in
        entry_past s full i h ∙ (λ j. entry_from (none (3 * i) (omega arith) j) (none (3 * i + 1) (omega arith) j) (none (3 * i + 2) (omega arith) j))

-- ---- no entry is awaited where all bytes are zero

zero_two : (high low : ℕ) → eqb (high * 256 + low) 0 ≡ eqb high 0 && eqb low 0
zero_two high low = go (eqb high 0) refl (eqb low 0) refl
  where
    go : (t : Bool) → eqb high 0 ≡ t → (u : Bool) → eqb low 0 ≡ u → eqb (high * 256 + low) 0 ≡ t && u
    go true h true l = eq-eqb (high * 256 + low) 0 (omega (arith, eqb-true high 0 h, eqb-true low 0 l))
    go true h false l = ne_eqb (high * 256 + low) 0 (λ same. eqb-false low 0 l (omega arith))
    go false h u l = ne_eqb (high * 256 + low) 0 (λ same. eqb-false high 0 h (omega arith))

regrouped : (a b c d : Bool) → a && b && c && d ≡ a && (b && (c && d))
regrouped true true c d = refl
regrouped true false c d = refl
regrouped false b c d = refl

module _ (s : List ℕ) (full : length s ≡ 48) where
  none_read : (i : ℕ) → is_none (entry_at s i) ≡ eqb (get_or s (3 * i) 0) 0 && (eqb (get_or s (suc (3 * i)) 0) 0 && eqb (get_or s (suc (suc (3 * i))) 0) 0)
  unfolding is_none
  none_read i =
      let one : 3 * i + 1 ≡ suc (3 * i) = omega arith in
      let two : 3 * i + 2 ≡ suc (suc (3 * i)) = omega arith in
      ap is_none (entry_read s full i)
      ∙ ap (λ (t : Bool). eqb (get_or s (3 * i) 0) 0 && t) (zero_two (get_or s (3 * i + 1) 0) (get_or s (3 * i + 2) 0))
      ∙ ap₂ (λ (high low : ℕ). eqb (get_or s (3 * i) 0) 0 && (eqb (get_or s high 0) 0 && eqb (get_or s low 0) 0)) one two

  zeros_thrice : (k : ℕ) → every (3 * k) (λ i. eqb (get_or s i 0) 0) ≡ every k (λ i. is_none (entry_at s i))
  zeros_thrice zero = refl
  zeros_thrice (suc k) =
      let three : 3 * suc k ≡ suc (suc (suc (3 * k))) = omega arith in
      ap (λ (n : ℕ). every n (λ i. eqb (get_or s i 0) 0)) three
      ∙ regrouped (every (3 * k) (λ i. eqb (get_or s i 0) 0)) (eqb (get_or s (3 * k) 0) 0) (eqb (get_or s (suc (3 * k)) 0) 0) (eqb (get_or s (suc (suc (3 * k))) 0) 0)
      ∙ ap₂ ◌&&◌ (zeros_thrice k) (sym (none_read k))

  pub zeros_none : every 48 (λ i. eqb (get_or s i 0) 0) ≡ every 16 (λ i. is_none (entry_at s i))
  zeros_none = zeros_thrice 16

-- ---- two entries of the same bytes are the same

module _ (s t : List ℕ) (full-s : length s ≡ 48) (full-t : length t ≡ 48) where
  same_entry : (i j : ℕ) → ((k : ℕ) → k < 3 → get_or s (3 * i + k) 0 ≡ get_or t (3 * j + k) 0) → entry_at s i ≡ entry_at t j
  same_entry i j all =
      let first : get_or s (3 * i) 0 ≡ get_or t (3 * j) 0 = simp add-zero at (all 0 (omega arith)) in
      entry_read s full-s i
      ∙ (λ k. entry_from (first k) (all 1 (omega arith) k) (all 2 (omega arith) k))
      ∙ sym (entry_read t full-t j)

-- ---- without an entry, each one behind it stands one place nearer to the front

pub zero_everywhere : (n i : ℕ) → ◌≡◌ {A = ℕ} (get_or (replicate n 0) i 0) 0
zero_everywhere zero i = refl
zero_everywhere (suc n) zero = refl
zero_everywhere (suc n) (suc i) = zero_everywhere n i

zeros_behind : (n : ℕ) (xs : List ℕ) (i : ℕ) → get_or (xs ++ replicate n 0) i 0 ≡ get_or xs i 0
zeros_behind n [] i = zero_everywhere n i
zeros_behind n (x ∷ xs) zero = refl
zeros_behind n (x ∷ xs) (suc i) = zeros_behind n xs i

-- three elements taken out at a place: those in front of it stay, and those behind it move up
out_kept : (at : ℕ) (xs : List ℕ) (k : ℕ) → k < at → get_or (take at xs ++ drop 3 (drop at xs)) k 0 ≡ get_or xs k 0
out_kept zero xs k h = absurd (omega arith)
out_kept (suc at) [] k h = refl
out_kept (suc at) (x ∷ xs) zero h = refl
out_kept (suc at) (x ∷ xs) (suc k) h = out_kept at xs k (omega arith)

out_moved : (at : ℕ) (xs : List ℕ) (k : ℕ) → at ≤ k → get_or (take at xs ++ drop 3 (drop at xs)) k 0 ≡ get_or xs (3 + k) 0
out_moved zero xs k h = get_or-drop 3 xs k 0
out_moved (suc at) [] k h = refl
out_moved (suc at) (x ∷ xs) zero h = absurd (omega arith)
out_moved (suc at) (x ∷ xs) (suc k) h =
    let next : suc (3 + k) ≡ 3 + suc k = omega arith in
    out_moved at xs k (omega arith) ∙ ap (λ (n : ℕ). get_or (x ∷ xs) n 0) next

module _ (entries : List ℕ) (i : ℕ) where
  out_read : (k : ℕ) → get_or (without_entry entries i) k 0 ≡ get_or (take (3 * i) entries ++ drop 3 (drop (3 * i) entries)) k 0
  out_read k =
      zeros_behind 3 (take (3 * i) entries ++ drop (3 * i + 3) entries) k
      ∙ ap (λ (l : List ℕ). get_or (take (3 * i) entries ++ l) k 0) (sym (drop-drop 3 (3 * i) entries))

  byte_kept : (k : ℕ) → k < 3 * i → get_or (without_entry entries i) k 0 ≡ get_or entries k 0
  byte_kept k h = out_read k ∙ out_kept (3 * i) entries k h

  byte_moved : (k : ℕ) → 3 * i ≤ k → get_or (without_entry entries i) k 0 ≡ get_or entries (3 + k) 0
  byte_moved k h = out_read k ∙ out_moved (3 * i) entries k h

  pub bytes_without : Bytes entries → Bytes (without_entry entries i)
  bytes_without bytes k = go (ltb k (3 * i)) refl
    where
      go : (t : Bool) → ltb k (3 * i) ≡ t → get_or (without_entry entries i) k 0 < 256
      go true before = rw (byte_kept k (ltb-true k (3 * i) before)) (bytes k)
      go false behind = rw (byte_moved k (ltb-false k (3 * i) behind)) (bytes (3 + k))

  -- the entries as they are made: the first k bytes are those without entry i, and the others are as they were
  abbrev pub begun : ℕ → List ℕ
  begun k = part (without_entry entries i) 0 k ++ drop k entries

  module _ (full : length entries ≡ 48) (inside : i < 16) where
    front : length (take (3 * i) entries) ≡ 3 * i
    front = length-take-le (3 * i) entries (omega arith)

    pub length_without : length (without_entry entries i) ≡ 48
    length_without =
        let both = length-append (take (3 * i) entries) (drop (3 * i + 3) entries) in
        length-append (take (3 * i) entries ++ drop (3 * i + 3) entries) (0 ∷ 0 ∷ 0 ∷ [])
        ∙ omega (arith, both, front, length-drop (3 * i + 3) entries)

    pub begun_first : entries ≡ begun (3 * i)
    begun_first =
        let grouped = append_assoc (take (3 * i) entries) (drop (3 * i + 3) entries) (0 ∷ 0 ∷ 0 ∷ []) in
        let same : part (without_entry entries i) 0 (3 * i) ≡ take (3 * i) entries =
        ap (take (3 * i)) grouped ∙ take_at (take (3 * i) entries) _ (3 * i) front in
        sym (take-append-drop (3 * i) entries) ∙ ap (λ (l : List ℕ). l ++ drop (3 * i) entries) (sym same)

    pub begun_more : (k byte : ℕ) → 3 * i ≤ k → k < 48 → byte ≡ get_or entries (k + 3) 0 → set (begun k) k byte ≡ begun (k + 1)
    begun_more k byte behind h same =
        let there : k + 3 ≡ 3 + k = omega arith in
        let here : k ≡ 0 + k = omega arith in
        let moved = same ∙ ap (λ (n : ℕ). get_or entries n 0) there ∙ sym (byte_moved k behind) in
        ap (set (begun k) k) (moved ∙ ap (λ (n : ℕ). get_or (without_entry entries i) n 0) here)
        ∙ copy_more entries (without_entry entries i) 0 k 0 (omega arith) (omega (arith, length_without))

    pub begun_last : set (set (set (begun 45) 45 0) 46 0) 47 0 ≡ without_entry entries i
    begun_last =
        let none : (k : ℕ) → 48 ≤ k → 0 ≡ get_or entries k 0 = λ k h. sym (get_or-eq_default entries 0 {n = k} (omega arith)) in
        ap (λ (l : List ℕ). set (set l 46 0) 47 0) (begun_more 45 0 (omega arith) (omega arith) (none 48 (omega arith)))
        ∙ ap (λ (l : List ℕ). set l 47 0) (begun_more 46 0 (omega arith) (omega arith) (none 49 (omega arith)))
        ∙ begun_more 47 0 (omega arith) (omega arith) (none 50 (omega arith))
        ∙ ap₂ ◌++◌ (take_all 48 (without_entry entries i) (omega (arith, length_without))) (drop_of_length-le entries {i = 48} (omega arith))
        ∙ append-nil (without_entry entries i)

    pub kept_without : (k : ℕ) → k < i → entry_at (without_entry entries i) k ≡ entry_at entries k
    kept_without k h = same_entry (without_entry entries i) entries length_without full k k (λ j few. byte_kept (3 * k + j) (omega arith))

    pub moved_up : (k : ℕ) → i ≤ k → entry_at (without_entry entries i) k ≡ entry_at entries (suc k)
    moved_up k h =
        same_entry (without_entry entries i) entries length_without full k (suc k)
        (λ j few. let there : 3 + (3 * k + j) ≡ 3 * suc k + j = omega arith in
        byte_moved (3 * k + j) (omega arith) ∙ ap (λ (n : ℕ). get_or entries n 0) there)

-- ---- an ask changes its own entry only

pub bytes_entry : (entry : Entry) → entry.message < 256 → Bytes (entry_bytes entry)
unfolding entry_bytes to_bytes
bytes_entry entry small zero = small
bytes_entry entry small (suc zero) = omega arith
bytes_entry entry small (suc (suc zero)) = omega arith
bytes_entry entry small (suc (suc (suc i))) = omega arith

pub length_entry : (entry : Entry) → length (entry_bytes entry) ≡ 3
unfolding entry_bytes to_bytes
length_entry entry = refl

-- its three bytes, stored one by one
pub put_bytes : (entries : List ℕ) (at : ℕ) (entry : Entry) → at + 3 ≤ length entries →
    set (set (set entries at (get_or (entry_bytes entry) 0 0)) (at + 1) (get_or (entry_bytes entry) 1 0)) (at + 2) (get_or (entry_bytes entry) 2 0)
    ≡ put_at entries at (entry_bytes entry)
unfolding entry_bytes to_bytes
put_bytes entries at entry room =
    let one : at + 1 ≡ suc at = omega arith in
    let two : at + 2 ≡ suc (suc at) = omega arith in
    let byte : ℕ → ℕ = λ k. get_or (entry_bytes entry) k 0 in
    ap₂ (λ (j k : ℕ). set (set (set entries at (byte 0)) j (byte 1)) k (byte 2)) one two
    ∙ put_sets entries at (entry_bytes entry) room

module _ (entries : List ℕ) (full : length entries ≡ 48) (w : ℕ) (room : w < 16) (entry : Entry) where
  abbrev put : List ℕ
  put = put_at entries (3 * w) (entry_bytes entry)

  fits : 3 * w + length (entry_bytes entry) ≤ length entries
  fits = omega (arith, length_entry entry)

  full_put : length put ≡ 48
  full_put = length_put entries (3 * w) (entry_bytes entry) ∙ full

  pub kept_before : (i : ℕ) → i < w → entry_at put i ≡ entry_at entries i
  kept_before i h = same_entry put entries full_put full i i (λ k few. put_before entries (3 * w) (entry_bytes entry) fits 0 (3 * i + k) (omega arith))

  pub kept_behind : (i : ℕ) → w < i → entry_at put i ≡ entry_at entries i
  kept_behind i h =
      same_entry put entries full_put full i i (λ k few. put_behind entries (3 * w) (entry_bytes entry) fits 0 (3 * i + k) (omega (arith, length_entry entry)))

  -- its own has the type that it asks for, and all of it where its type-data has two bytes

  put_read : entry_at put w ≡ entry_from entry.message (entry.type_data / 256 % 256) (entry.type_data % 256)
  unfolding entry_bytes to_bytes
  put_read =
      let byte = put_inside entries (3 * w) (entry_bytes entry) fits 0 in
      let first : get_or put (3 * w) 0 ≡ entry.message = simp add-zero at (byte 0 (omega arith)) in
      entry_read put full_put w ∙ (λ k. entry_from (first k) (byte 1 (omega arith) k) (byte 2 (omega arith) k))

  pub type_put : (entry_at put w).message ≡ entry.message
  type_put = ap (λ (read : Entry). read.message) put_read

  pub entry_put : entry.type_data < 256 ^ 2 → entry_at put w ≡ entry
  entry_put two =
      let whole : entry.type_data / 256 % 256 * 256 + entry.type_data % 256 ≡ entry.type_data = omega arith in
      put_read ∙ (λ k. record { message = entry.message; type_data = whole k })
