-- A message that is read alone, as a part, has the same fields as where it stands, each moved to there. Assumes nothing.
use Rattle.std.specs.Prelude.{Ok, Err}
use Prim.Native.Nat.{ℕ, zero, suc, ◌+◌, ◌-◌, ◌/◌, ◌%◌, ◌^◌, ◌≤◌}
use mathlib.Core.Path.{◌≡◌, refl, ap, ◌∙◌}
use mathlib.Core.List.{List, [], ◌∷◌, map}
use mathlib.Core.Bool.{Bool, true, false, cond, ◌&&◌}
use lib.ListN.{length, get_or}
use lib.Dec.{ltb, leb, eqb}
use native.Mathlib.Nat.{add_assoc}
use native.Mathlib.Omega.{arith}
use borrow.Author.Tests.{le-ltb, lt-ltb, ltb-true, ltb-false}
use Rattle.bytes_be.specs.Part.{part}
use Rattle.bytes_be.proofs.Parts.{length_part, get_d_part}
use Rattle.wire.specs.declared.Kind.TheVariants.{CutShort, BadVarint}
use Rattle.wire.specs.declared.Field.{Field}
use Rattle.wire.specs.Varint.{Said, varint_of, below, bounded, said_at, varint_at}
use Rattle.wire.specs.Fields.{Reading, on_varint, sized, numbered, payload_at, tagged, field_at, and_behind, fields_within, fields_of}

-- everything moved by so many places
abbrev varint_by : ℕ → Said → Said
varint_by n (Ok varint) = varint_of varint.value (n + varint.next)
varint_by n (Err kind) = Err kind

abbrev pub field_by : ℕ → Field → Field
field_by n field =
    record {
      tag = n + field.tag;
      number = field.number;
      wire = field.wire;
      value = field.value;
      at = n + field.at;
      next = n + field.next;
    }

abbrev pub reading_by : ℕ → Reading → Reading
reading_by n (Ok field) = Ok (field_by n field)
reading_by n (Err why) = Err (record { kind = why.kind; at = n + why.at })

ltb_by : (n i j : ℕ) → ltb (n + i) (n + j) ≡ ltb i j
ltb_by n i j = go (ltb i j) refl
  where
    go : (t : Bool) → ltb i j ≡ t → ltb (n + i) (n + j) ≡ t
    go true e = let h = ltb-true i j e in lt-ltb (n + i) (n + j) (omega arith)
    go false e = let h = ltb-false i j e in le-ltb (n + i) (n + j) (omega arith)

below_by : (n byte : ℕ) (w : Said) → below byte (varint_by n w) ≡ varint_by n (below byte w)
below_by n byte (Ok varint) = refl
below_by n byte (Err kind) = refl

bounded_by : (n : ℕ) (w : Said) → bounded (varint_by n w) ≡ varint_by n (bounded w)
bounded_by n (Ok varint) = go (ltb varint.value (2 ^ 64))
  where
    go : (t : Bool) → cond t (varint_by n (Ok varint)) (Err BadVarint) ≡ varint_by n (cond t (Ok varint) (Err BadVarint))
    go true = refl
    go false = refl
bounded_by n (Err kind) = refl

cond_by : (n : ℕ) (t : Bool) {x y : Reading} (x' y' : Reading) → x ≡ reading_by n x' → y ≡ reading_by n y' → cond t x y ≡ reading_by n (cond t x' y')
cond_by n true x' y' p q = p
cond_by n false x' y' p q = q

on_varint_by : (n tag : ℕ) (then then' : ℕ → ℕ → Reading) (w : Said) → ((v x : ℕ) → w ≡ varint_of v x → then v (n + x) ≡ reading_by n (then' v x))
    → on_varint (n + tag) then (varint_by n w) ≡ reading_by n (on_varint tag then' w)
on_varint_by n tag then then' (Ok varint) f = f varint.value varint.next refl
on_varint_by n tag then then' (Err kind) f = refl

sized_by : (n tag number wire at end size : ℕ) → sized (n + tag) number wire (n + at) (n + end) size ≡ reading_by n (sized tag number wire at end size)
sized_by n tag number wire at end size =
    let room : n + end - (n + at) ≡ end - at = omega arith in
    rw (room, add_assoc n at size) (cond_by n (ltb (end - at) size) _ _ refl refl)

module _ (s : List ℕ) (n size : ℕ) (there : n + size ≤ length s) where
  said_by : (left i j : ℕ) → j ≤ size → said_at left s (n + i) (n + j) ≡ varint_by n (said_at left (part s n size) i j)
  unfolding said_at
  said_by zero i j h = refl
  said_by (suc left) i j h = rw (ltb_by n i j) (go (ltb i j) refl (said_by left (i + 1) j h))
    where
      go : (t : Bool) → ltb i j ≡ t → said_at left s (n + (i + 1)) (n + j) ≡ varint_by n (said_at left (part s n size) (i + 1) j)
          → cond t (cond (ltb (get_or s (n + i) 0) 128) (varint_of (get_or s (n + i) 0) (n + i + 1)) (below (get_or s (n + i) 0) (said_at left s (n + i + 1) (n + j)))) (Err CutShort)
          ≡ varint_by n (cond t (cond (ltb (get_or (part s n size) i 0) 128) (varint_of (get_or (part s n size) i 0) (i + 1)) (below (get_or (part s n size) i 0) (said_at left (part s n size) (i + 1) j))) (Err CutShort))
      go false e behind = refl
      go true e behind =
          let inside = ltb-true i j e in
          rw (get_d_part s n size i 0 (omega arith), add_assoc n i 1, behind) (last (ltb (get_or s (n + i) 0) 128))
        where
          last : (t : Bool)
              → cond t (varint_of (get_or s (n + i) 0) (n + (i + 1))) (below (get_or s (n + i) 0) (varint_by n (said_at left (part s n size) (i + 1) j)))
              ≡ varint_by n (cond t (varint_of (get_or s (n + i) 0) (i + 1)) (below (get_or s (n + i) 0) (said_at left (part s n size) (i + 1) j)))
          last true = refl
          last false = below_by n (get_or s (n + i) 0) (said_at left (part s n size) (i + 1) j)

  varint-by : (i j : ℕ) → j ≤ size → varint_at s (n + i) (n + j) ≡ varint_by n (varint_at (part s n size) i j)
  unfolding varint_at
  varint-by i j h = ap bounded (said_by 10 i j h) ∙ bounded_by n (said_at 10 (part s n size) i j)

  payload_by : (tag number wire at end : ℕ) → end ≤ size
      → payload_at s (n + tag) number wire (n + at) (n + end) ≡ reading_by n (payload_at (part s n size) tag number wire at end)
  unfolding payload_at
  payload_by tag number wire at end h =
      rw (varint-by at end h)
      (cond_by n (eqb wire 0) _ _ (on_varint_by n tag (numbered (n + tag) number (n + at)) (numbered tag number at) (varint_at (part s n size) at end) (λ v x e. refl))
      (cond_by n (eqb wire 1) _ _ (sized_by n tag number 1 at end 8)
      (cond_by n (eqb wire 2) _ _
      (on_varint_by n tag (λ count from. sized (n + tag) number 2 from (n + end) count) (λ count from. sized tag number 2 from end count) (varint_at (part s n size) at end) (λ v x e. sized_by n tag number 2 x end v))
      (cond_by n (eqb wire 5) _ _ (sized_by n tag number 5 at end 4) refl))))

  pub field-by : (at end : ℕ) → end ≤ size → field_at s (n + at) (n + end) ≡ reading_by n (field_at (part s n size) at end)
  unfolding field_at
  field-by at end h =
      rw (le-ltb (length s) (n + end) (omega arith), length_part s n size there, le-ltb size end h, varint-by at end h)
      (on_varint_by n at (tagged s (n + at) (n + end)) (tagged (part s n size) at end) (varint_at (part s n size) at end) (λ v x e.
      cond_by n (leb 8 v && leb v 0xFFFF_FFFF) _ _ (payload_by at (v / 8) (v % 8) x end h) refl))

  fields_within_by : (left at end : ℕ) → end ≤ size → fields_within left s (n + end) (n + at) ≡ map (reading_by n) (fields_within left (part s n size) end at)
  unfolding fields_within
  fields_within_by zero at end h = refl
  fields_within_by (suc left) at end h =
      rw (ltb_by n at end, field-by at end h) (go (ltb at end) (field_at (part s n size) at end) (λ next. fields_within_by left next end h))
    where
      go : (t : Bool) (r : Reading) → ((next : ℕ) → fields_within left s (n + end) (n + next) ≡ map (reading_by n) (fields_within left (part s n size) end next))
          → cond t (and_behind (fields_within left s (n + end)) (reading_by n r)) [] ≡ map (reading_by n) (cond t (and_behind (fields_within left (part s n size) end) r) [])
      go false r behind = refl
      go true (Err why) behind = refl
      go true (Ok field) behind = ap (λ (l : List Reading). Ok (field_by n field) ∷ l) (behind field.next)

  -- the fields of the message where it stands
  pub fields_by : (from to : ℕ) → to ≤ size → fields_of s (n + from) (n + to) ≡ map (reading_by n) (fields_of (part s n size) from to)
  unfolding fields_of
  fields_by from to h =
      let count : n + to - (n + from) ≡ to - from = omega arith in
      rw count (fields_within_by (to - from) from to h)
