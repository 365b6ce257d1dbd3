-- The cases of a field, that it lies within its message, and the fields of a message one after the other. Assumes nothing.
use Rattle.std.specs.Prelude.{Ok, Err}
use Prim.Native.Nat.{ℕ, zero, suc, ◌+◌, ◌-◌, ◌/◌, ◌%◌, ◌≤◌, ◌<◌}
use mathlib.Core.Path.{◌≡◌, refl, sym, ap, ◌∙◌, subst}
use mathlib.Core.List.{List, [], ◌∷◌}
use mathlib.Core.Bool.{Bool, true, false, cond, ◌&&◌}
use lib.ListN.{length}
use lib.Dec.{ltb, leb, eqb}
use native.Mathlib.Numerals.{sub-one}
use native.Mathlib.Omega.{arith}
use borrow.Author.Tests.{le-ltb, lt-ltb, ne_eqb, ltb-false, leb-true}
use Rattle.bytes_be.proofs.Tests.{both_true}
use Rattle.wire.specs.declared.Kind.{Kind}
use Rattle.wire.specs.declared.Kind.TheVariants.{CutShort, WireType}
use Rattle.wire.specs.declared.Varint.{Varint}
use Rattle.wire.specs.declared.Field.{Field}
use Rattle.wire.specs.declared.Fault.{Fault}
use Rattle.wire.specs.Varint.{Said, varint_of, varint_at}
use Rattle.wire.specs.Fields.{Reading, fault, on_varint, sized, numbered, payload_at, tagged, field_at, and_behind, fields_within, fields_of}
use Rattle.wire.proofs.Varints.{varint_within}

-- what follows a varint of a field, by what came of it
module _ (tag : ℕ) (then : ℕ → ℕ → Reading) {r w : Said} (is : r ≡ w) where
  pub on_read : {varint : Varint} → r ≡ Ok varint → then varint.value varint.next ≡ on_varint tag then w
  on_read q = ap (on_varint tag then) (sym q ∙ is)

  pub on_fault : {kind : Kind} → r ≡ Err kind → fault kind tag ≡ on_varint tag then w
  on_fault q = ap (on_varint tag then) (sym q ∙ is)

-- a varint's end, from the call that read it
pub read_within : (s : List ℕ) (at end : ℕ) {r : Said} {varint : Varint} → r ≡ varint_at s at end → r ≡ Ok varint → (at < varint.next) × (varint.next ≤ end)
read_within s at end {r} {varint} p q = varint_within s at end varint.value varint.next (sym p ∙ q)

-- a payload by its wire type
module _ (s : List ℕ) (tag number wire at end : ℕ) {r : Reading} where
  pub payload_varint : wire ≡ 0 → r ≡ on_varint tag (numbered tag number at) (varint_at s at end) → r ≡ payload_at s tag number wire at end
  unfolding payload_at
  payload_varint h q = rw h q

  pub payload_eight : wire ≡ 1 → r ≡ sized tag number 1 at end 8 → r ≡ payload_at s tag number wire at end
  unfolding payload_at
  payload_eight h q = rw h q

  pub payload_bytes : wire ≡ 2 → r ≡ on_varint tag (λ size from. sized tag number 2 from end size) (varint_at s at end) → r ≡ payload_at s tag number wire at end
  unfolding payload_at
  payload_bytes h q = rw h q

  pub payload_four : wire ≡ 5 → r ≡ sized tag number 5 at end 4 → r ≡ payload_at s tag number wire at end
  unfolding payload_at
  payload_four h q = rw h q

  pub payload_other : (wire ≡ 0 → ⊥) → (wire ≡ 1 → ⊥) → (wire ≡ 2 → ⊥) → (wire ≡ 5 → ⊥) → r ≡ fault WireType tag → r ≡ payload_at s tag number wire at end
  unfolding payload_at
  payload_other h i j k q = simp (ne_eqb wire 0 h, ne_eqb wire 1 i, ne_eqb wire 2 j, ne_eqb wire 5 k) q

-- a field by its tag
module _ (s : List ℕ) (at end : ℕ) {r : Reading} where
  pub field_behind : length s < end → r ≡ fault CutShort at → r ≡ field_at s at end
  unfolding field_at
  field_behind h q = simp (lt-ltb (length s) end h) q

  pub field_tag : end ≤ length s → r ≡ on_varint at (tagged s at end) (varint_at s at end) → r ≡ field_at s at end
  unfolding field_at
  field_tag h q = simp (le-ltb (length s) end h) q

-- ---- a field lies within its message

-- it is no field 0, its payload stands behind its tag and ends within the message, which ends within the bytes
pub record Within (s : List ℕ) (at end : ℕ) (field : Field) : Type 0 where
  pub first : field.tag ≡ at
  pub counted : 0 < field.number
  pub behind : at < field.at
  pub ends : field.at ≤ field.next
  pub inside : field.next ≤ end
  pub there : end ≤ length s

abbrev Lies : List ℕ → ℕ → ℕ → Reading → Type 0
Lies s at end (Ok field) = Within s at end field
Lies s at end (Err fault) = Unit {0}

by_cond : (P : Reading → Type 0) (b : Bool) (x y : Reading) → (b ≡ true → P x) → (b ≡ false → P y) → P (cond b x y)
by_cond P true x y f g = f refl
by_cond P false x y f g = g refl

by_varint : (P : Reading → Type 0) (tag : ℕ) (then : ℕ → ℕ → Reading) (w : Said) → ((v n : ℕ) → w ≡ varint_of v n → P (then v n))
    → ((kind : Kind) → P (fault kind tag)) → P (on_varint tag then w)
by_varint P tag then (Ok varint) f g = f varint.value varint.next refl
by_varint P tag then (Err kind) f g = g kind

module _ (s : List ℕ) (tag end : ℕ) (there : end ≤ length s) where
  sized_lies : (number wire at size : ℕ) → 0 < number → tag < at → at ≤ end → Lies s tag end (sized tag number wire at end size)
  sized_lies number wire at size some h l =
      by_cond (Lies s tag end) (ltb (end - at) size) _ _ (λ _. tt) (λ q. let k = ltb-false (end - at) size q in record {
        first = refl;
        counted = some;
        behind = h;
        ends = omega arith;
        inside = omega arith;
        there = there;
      })

  payload_lies : (number wire at : ℕ) → 0 < number → tag < at → at ≤ end → Lies s tag end (payload_at s tag number wire at end)
  unfolding payload_at
  payload_lies number wire at some h l =
      by_cond (Lies s tag end) (eqb wire 0) _ _
      (λ _. by_varint (Lies s tag end) tag (numbered tag number at) (varint_at s at end) (λ v n q. let k = varint_within s at end v n q in record {
        first = refl;
        counted = some;
        behind = h;
        ends = omega arith;
        inside = k.1;
        there = there;
      }) (λ _. tt))
      (λ _. by_cond (Lies s tag end) (eqb wire 1) _ _ (λ _. sized_lies number 1 at 8 some h l)
      (λ _. by_cond (Lies s tag end) (eqb wire 2) _ _
      (λ _. by_varint (Lies s tag end) tag (λ size from. sized tag number 2 from end size) (varint_at s at end) (λ v n q. let k = varint_within s at end v n q in sized_lies number 2 n v some (omega arith) k.1) (λ _. tt))
      (λ _. by_cond (Lies s tag end) (eqb wire 5) _ _ (λ _. sized_lies number 5 at 4 some h l) (λ _. tt))))

field_lies : (s : List ℕ) (at end : ℕ) → Lies s at end (field_at s at end)
unfolding field_at
field_lies s at end =
    by_cond (Lies s at end) (ltb (length s) end) _ _ (λ _. tt)
    (λ p. let there = ltb-false (length s) end p in
    by_varint (Lies s at end) at (tagged s at end) (varint_at s at end) (λ v n q. let k = varint_within s at end v n q in
    by_cond (Lies s at end) (leb 8 v && leb v 0xFFFF_FFFF) _ _ (λ t. let legal = leb-true 8 v (both_true (leb 8 v) (leb v 0xFFFF_FFFF) t).0 in payload_lies s at end there (v / 8) (v % 8) n (omega arith) k.0 k.1) (λ _. tt)) (λ _. tt))

pub field_within : (s : List ℕ) (at end : ℕ) (field : Field) → field_at s at end ≡ Ok field → Within s at end field
field_within s at end field e = subst (Lies s at end) e (field_lies s at end)

-- ---- the fields of a message, one after the other

-- more room for fields than there are bytes changes nothing
enough : (left more : ℕ) (s : List ℕ) (end at : ℕ) → end ≤ at + left → end ≤ at + more → fields_within left s end at ≡ fields_within more s end at
unfolding fields_within
enough zero zero s end at h k = refl
enough zero (suc more) s end at h k = sym (rw (le-ltb at end (omega arith)))
enough (suc left) zero s end at h k = rw (le-ltb at end (omega arith))
enough (suc left) (suc more) s end at h k =
    ap (λ (l : List Reading). cond (ltb at end) l [])
    (go (field_at s at end) refl (λ next b. enough left more s end next (omega arith) (omega arith)))
  where
    go : (r : Reading) → field_at s at end ≡ r → ((next : ℕ) → at < next → fields_within left s end next ≡ fields_within more s end next)
        → and_behind (fields_within left s end) r ≡ and_behind (fields_within more s end) r
    go (Err f) e behind = refl
    go (Ok f) e behind =
        let w = field_within s at end f e in let a = w.behind in let b = w.ends in
        ap (λ (l : List Reading). Ok f ∷ l) (behind f.next (omega arith))

pub no_fields : (s : List ℕ) (at end : ℕ) → end ≤ at → fields_of s at end ≡ []
unfolding fields_of fields_within
no_fields s at end h = go (end - at)
  where
    go : (n : ℕ) → fields_within n s end at ≡ []
    go zero = refl
    go (suc n) = rw (le-ltb at end h)

module _ (s : List ℕ) (at end : ℕ) (inside : at < end) (r : Reading) (is : r ≡ field_at s at end) where
  some_fields : fields_of s at end ≡ and_behind (λ next. fields_within (end - at - 1) s end next) r
  unfolding fields_of fields_within
  some_fields = go (end - at) refl
    where
      go : (n : ℕ) → end - at ≡ n → fields_within n s end at ≡ and_behind (λ next. fields_within (n - 1) s end next) r
      go zero e = absurd (omega arith)
      go (suc n) e = rw (lt-ltb at end inside, ← is, sub-one)

  pub first_field : (field : Field) → r ≡ Ok field → fields_of s at end ≡ Ok field ∷ fields_of s field.next end
  unfolding fields_of
  first_field field e =
      let w = field_within s at end field (sym is ∙ e) in
      let a = w.behind in let b = w.ends in let i = w.inside in
      some_fields ∙ ap (and_behind (λ next. fields_within (end - at - 1) s end next)) e ∙ ap (λ (l : List Reading). Ok field ∷ l) (enough (end - at - 1) (end - field.next) s end field.next (omega arith) (omega arith))

  pub first_fault : (why : Fault) → r ≡ Err why → fields_of s at end ≡ Err why ∷ []
  first_fault why e = some_fields ∙ ap (and_behind (λ next. fields_within (end - at - 1) s end next)) e
