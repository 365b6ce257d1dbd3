-- A field that ends in front of a place is read the same in the message that ends there, and so the fields in front of a field are those
-- of the message up to its tag. Assumes nothing.
use Rattle.std.specs.Prelude.{Ok, Err}
use Prim.Native.Nat.{ℕ, zero, suc, ◌+◌, ◌-◌, ◌/◌, ◌%◌, ◌^◌, ◌≤◌, ◌<◌}
use mathlib.Core.Path.{◌≡◌, refl, sym, ap, ◌∙◌, subst}
use mathlib.Core.List.{List, [], ◌∷◌, ◌++◌}
use mathlib.Core.Bool.{Bool, true, false, cond, ◌&&◌}
use lib.ListN.{length, get_or}
use lib.Dec.{ltb, leb, eqb}
use native.Mathlib.Omega.{arith}
use borrow.Author.Tests.{le-ltb, lt-ltb, ltb-true, ltb-false}
use Rattle.bytes_be.proofs.Tests.{clash}
use Rattle.wire.specs.declared.Kind.TheVariants.{CutShort, BadVarint}
use Rattle.wire.specs.declared.Field.{Field}
use Rattle.wire.specs.declared.Fault.{Fault}
use Rattle.wire.specs.Varint.{Said, varint_of, below, bounded, said_at, varint_at}
use Rattle.wire.specs.Fields.{Reading, on_varint, sized, numbered, payload_at, tagged, field_at, fields_of}
use Rattle.wire.proofs.Varints.{err_not_read, read_next, said_within, varint_within}
use Rattle.wire.proofs.Readings.{field_within, no_fields, first_field, first_fault}

refused_not_read : {A : Type 0} {why : Fault} {field : Field} → Err why ≡ Ok field → A
refused_not_read e = clash cc

same_field : {here there : Field} → ◌≡◌ {A = Reading} (Ok here) (Ok there) → here ≡ there
same_field e = cc

module _ (s : List ℕ) (end stop : ℕ) where
  said_front : (left at value next : ℕ) → said_at left s at end ≡ varint_of value next → next ≤ stop → said_at left s at stop ≡ varint_of value next
  unfolding said_at
  said_front zero at value next e h = e
  said_front (suc left) at value next e h =
      go (ltb at end) (ltb (get_or s at 0) 128) (said_at left s (at + 1) end) refl e (said_front left (at + 1))
    where
      go : (t u : Bool) (w : Said) → said_at left s (at + 1) end ≡ w
          → cond t (cond u (varint_of (get_or s at 0) (at + 1)) (below (get_or s at 0) w)) (Err CutShort) ≡ varint_of value next
          → ((v x : ℕ) → said_at left s (at + 1) end ≡ varint_of v x → x ≤ stop → said_at left s (at + 1) stop ≡ varint_of v x)
          → cond (ltb at stop) (cond u (varint_of (get_or s at 0) (at + 1)) (below (get_or s at 0) (said_at left s (at + 1) stop))) (Err CutShort) ≡ varint_of value next
      go false u w q e behind = err_not_read e
      go true true w q e behind = let g = read_next e in rw (lt-ltb at stop (omega arith)) e
      go true false (Ok varint) q e behind =
          let g = read_next e in
          let i = said_within left s (at + 1) end varint.value varint.next q in
          rw (lt-ltb at stop (omega arith), behind varint.value varint.next q (omega arith)) e
      go true false (Err kind) q e behind = err_not_read e

  varint_front : (at value next : ℕ) → varint_at s at end ≡ varint_of value next → next ≤ stop → varint_at s at stop ≡ varint_of value next
  unfolding varint_at
  varint_front at value next e h = go (said_at 10 s at end) refl e
    where
      kept : (v x : ℕ) → said_at 10 s at end ≡ varint_of v x → (t : Bool) → ltb v (2 ^ 64) ≡ t → cond t (varint_of v x) (Err BadVarint) ≡ varint_of value next
          → bounded (said_at 10 s at stop) ≡ varint_of value next
      kept v x q true p e = let g = read_next e in rw (said_front 10 at v x q (omega arith), p) e
      kept v x q false p e = err_not_read e

      go : (w : Said) → said_at 10 s at end ≡ w → bounded w ≡ varint_of value next → bounded (said_at 10 s at stop) ≡ varint_of value next
      go (Ok varint) q e = kept varint.value varint.next q (ltb varint.value (2 ^ 64)) refl e
      go (Err kind) q e = err_not_read e

  -- a choice, and what follows a varint, where each way gives the field again
  choice_front : (t : Bool) {x y x' y' : Reading} (field : Field) → (x ≡ Ok field → x' ≡ Ok field) → (y ≡ Ok field → y' ≡ Ok field)
      → cond t x y ≡ Ok field → cond t x' y' ≡ Ok field
  choice_front true field f g e = f e
  choice_front false field f g e = g e

  on_varint_front : (tag at : ℕ) (then then' : ℕ → ℕ → Reading) (field : Field)
      → ((v x : ℕ) → then v x ≡ Ok field → x ≤ stop) → ((v x : ℕ) → then v x ≡ Ok field → then' v x ≡ Ok field)
      → on_varint tag then (varint_at s at end) ≡ Ok field → on_varint tag then' (varint_at s at stop) ≡ Ok field
  on_varint_front tag at then then' field ends kept e = go (varint_at s at end) refl e
    where
      go : (w : Said) → varint_at s at end ≡ w → on_varint tag then w ≡ Ok field → on_varint tag then' (varint_at s at stop) ≡ Ok field
      go (Ok varint) q e = rw (varint_front at varint.value varint.next q (ends varint.value varint.next e)) (kept varint.value varint.next e)
      go (Err kind) q e = refused_not_read e

  module _ (field : Field) (front : field.next ≤ stop) where
    sized_ends : (tag number wire at size : ℕ) → sized tag number wire at end size ≡ Ok field → (at ≤ stop) × (sized tag number wire at stop size ≡ Ok field)
    sized_ends tag number wire at size e = go (ltb (end - at) size) e
      where
        go : (t : Bool) → cond {A = Reading} t (Err (record { kind = CutShort; at = tag })) (Ok (record { tag = tag; number = number; wire = wire; value = 0; at = at; next = at + size })) ≡ Ok field
            → (at ≤ stop) × (sized tag number wire at stop size ≡ Ok field)
        go true e = refused_not_read e
        go false e =
            let last : at + size ≡ field.next = ap (λ (f : Field). f.next) (same_field e) in
            (omega arith, rw (le-ltb (stop - at) size (omega arith)) e)

    either : (t : Bool) {x y : Reading} {A : Type 0} → (x ≡ Ok field → A) → (y ≡ Ok field → A) → cond t x y ≡ Ok field → A
    either true f g e = f e
    either false f g e = g e

    on_varint_ends : (tag at : ℕ) (then : ℕ → ℕ → Reading) → ((v x : ℕ) → then v x ≡ Ok field → x ≤ stop) → on_varint tag then (varint_at s at end) ≡ Ok field → at ≤ stop
    on_varint_ends tag at then ends e = go (varint_at s at end) refl e
      where
        go : (w : Said) → varint_at s at end ≡ w → on_varint tag then w ≡ Ok field → at ≤ stop
        go (Ok varint) q e = let i = varint_within s at end varint.value varint.next q in let l = ends varint.value varint.next e in omega arith
        go (Err kind) q e = refused_not_read e

    numbered_ends : (tag number at v x : ℕ) → numbered tag number at v x ≡ Ok field → x ≤ stop
    numbered_ends tag number at v x e = let last : x ≡ field.next = ap (λ (f : Field). f.next) (same_field e) in omega arith

    payload_ends : (tag number wire at : ℕ) → payload_at s tag number wire at end ≡ Ok field → at ≤ stop
    unfolding payload_at
    payload_ends tag number wire at e =
        either (eqb wire 0) (on_varint_ends tag at (numbered tag number at) (numbered_ends tag number at))
        (either (eqb wire 1) (λ e. (sized_ends tag number 1 at 8 e).0)
        (either (eqb wire 2) (on_varint_ends tag at (λ size from. sized tag number 2 from end size) (λ v x e. (sized_ends tag number 2 x v e).0))
        (either (eqb wire 5) (λ e. (sized_ends tag number 5 at 4 e).0) (λ e. refused_not_read e))))
        e

    payload_front : (tag number wire at : ℕ) → payload_at s tag number wire at end ≡ Ok field → payload_at s tag number wire at stop ≡ Ok field
    unfolding payload_at
    payload_front tag number wire at e =
        choice_front (eqb wire 0) field
        (on_varint_front tag at (numbered tag number at) (numbered tag number at) field (numbered_ends tag number at) (λ v x e. e))
        (choice_front (eqb wire 1) field (λ e. (sized_ends tag number 1 at 8 e).1)
        (choice_front (eqb wire 2) field
        (on_varint_front tag at (λ size from. sized tag number 2 from end size) (λ size from. sized tag number 2 from stop size) field (λ v x e. (sized_ends tag number 2 x v e).0) (λ v x e. (sized_ends tag number 2 x v e).1))
        (choice_front (eqb wire 5) field (λ e. (sized_ends tag number 5 at 4 e).1) (λ e. refused_not_read e))))
        e

    field_front : (at : ℕ) → stop ≤ length s → field_at s at end ≡ Ok field → field_at s at stop ≡ Ok field
    unfolding field_at
    field_front at there e =
        rw (le-ltb (length s) stop there)
        (either (ltb (length s) end) (λ e. refused_not_read e)
        (on_varint_front at at (tagged s at end) (tagged s at stop) field
        (λ v x. either (leb 8 v && leb v 0xFFFF_FFFF) (payload_ends at (v / 8) (v % 8) x) (λ e. refused_not_read e))
        (λ v x. choice_front (leb 8 v && leb v 0xFFFF_FFFF) field (payload_front at (v / 8) (v % 8) x) (λ e. e)))
        e)

-- ---- the fields in front of a field

none_not_some : {A : Type 0} {r : Reading} {rest : List Reading} → [] ≡ r ∷ rest → A
none_not_some e = let z = ap length e in absurd (omega arith)

same_head : {here there : Reading} {rest behind : List Reading} → here ∷ rest ≡ there ∷ behind → (here ≡ there) × (rest ≡ behind)
same_head e = (cc, cc)

module _ (s : List ℕ) (to : ℕ) where
  -- what is known where the fields from a place on begin with a field
  pub record Begins (at : ℕ) (field : Field) (rest : List Reading) : Type 0 where
    pub more : at < to
    pub read : field_at s at to ≡ Ok field
    pub behind : fields_of s field.next to ≡ rest

  pub begins : (at : ℕ) (field : Field) (rest : List Reading) → fields_of s at to ≡ Ok field ∷ rest → Begins at field rest
  begins at field rest e = go (ltb at to) refl (field_at s at to) refl
    where
      go : (t : Bool) → ltb at to ≡ t → (r : Reading) → field_at s at to ≡ r → Begins at field rest
      go false p r q = none_not_some (sym (no_fields s at to (ltb-false at to p)) ∙ e)
      go true p (Err why) q = refused_not_read (same_head (sym (first_fault s at to (ltb-true at to p) (Err why) (sym q) why refl) ∙ e)).0
      go true p (Ok here) q =
          let more = ltb-true at to p in
          let both = same_head (sym (first_field s at to more (Ok here) (sym q) here refl) ∙ e) in
          let same : here ≡ field = same_field both.0 in
          record { more = more; read = q ∙ both.0; behind = subst (λ (f : Field). fields_of s f.next to ≡ rest) same both.1 }

  fault_alone : (at : ℕ) (why : Fault) (rest : List Reading) → fields_of s at to ≡ Err why ∷ rest → rest ≡ []
  fault_alone at why rest e = go (ltb at to) refl (field_at s at to) refl
    where
      go : (t : Bool) → ltb at to ≡ t → (r : Reading) → field_at s at to ≡ r → rest ≡ []
      go false p r q = none_not_some (sym (no_fields s at to (ltb-false at to p)) ∙ e)
      go true p (Err other) q = sym (same_head (sym (first_fault s at to (ltb-true at to p) (Err other) (sym q) other refl) ∙ e)).1
      go true p (Ok here) q = refused_not_read (sym (same_head (sym (first_field s at to (ltb-true at to p) (Ok here) (sym q) here refl) ∙ e)).0)

  behind_not_none : {A : Type 0} (front : List Reading) (r : Reading) (behind : List Reading) → front ++ (r ∷ behind) ≡ [] → A
  behind_not_none [] r behind e = none_not_some (sym e)
  behind_not_none (x ∷ front) r behind e = none_not_some (sym e)

  -- the tag of a field does not stand in front of the place from which it was reached, and the message up to it has just the fields before
  pub fields_front : (front : List Reading) (field : Field) (behind : List Reading) (at : ℕ) → fields_of s at to ≡ front ++ (Ok field ∷ behind)
      → (at ≤ field.tag) × (field.tag ≤ length s) × (fields_of s at field.tag ≡ front)
  fields_front [] field behind at e =
      let b = begins at field behind e in
      let w = field_within s at to field b.read in
      let f = w.first in let m = b.more in let t = w.there in
      (omega arith, omega arith, no_fields s at field.tag (omega arith))
  fields_front (Err why ∷ front) field behind at e = behind_not_none front (Ok field) behind (fault_alone at why (front ++ (Ok field ∷ behind)) e)
  fields_front (Ok here ∷ front) field behind at e =
      let b = begins at here (front ++ (Ok field ∷ behind)) e in
      let w = field_within s at to here b.read in
      let rest = fields_front front field behind here.next b.behind in
      let f = w.behind in let n = w.ends in let r = rest.0 in
      let read = field_front s to field.tag here r at rest.1 b.read in
      (omega arith, rest.1, first_field s at field.tag (omega arith) (Ok here) (sym read) here refl ∙ ap (λ (l : List Reading). Ok here ∷ l) rest.2)
