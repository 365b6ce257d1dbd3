-- A Value that is readable where it stands is readable as a part of its own, in which no fewer levels may nest. Assumes nothing.
use Rattle.std.specs.Prelude.{Option, None, Ok, Err}
use Prim.Native.Nat.{ℕ, zero, suc, ◌+◌, ◌-◌, ◌≤◌}
use mathlib.Core.Path.{◌≡◌, refl, sym, ap, ◌∙◌, subst}
use mathlib.Core.List.{List, [], map}
use mathlib.Core.Bool.{Bool, true, false, cond, not, ◌&&◌}
use lib.ListN.{length}
use lib.Dec.{ltb, leb, eqb}
use native.Mathlib.Nat.{add-zero}
use native.Mathlib.Omega.{arith}
use Rattle.bytes_be.proofs.Tests.{clash}
use Rattle.bytes_be.specs.Part.{part, part_at, between, same}
use Rattle.bytes_be.specs.declared.Place.{Place}
use Rattle.bytes_be.proofs.Parts.{length_part, part_part}
use Rattle.utf8.specs.Text.{well_formed}
use Rattle.wire.specs.declared.Kind.{Kind}
use Rattle.wire.specs.declared.Kind.TheVariants.{WireType, Repeated, BadText, Other}
use Rattle.wire.specs.declared.Fault.{Fault}
use Rattle.wire.specs.declared.Field.{Field}
use Rattle.wire.specs.Fields.{place_of, Reading, field_at, and_behind, fields_within, fields_of}
use Rattle.wire.proofs.Readings.{Within, field_within}
use Rattle.wire.proofs.Moved.{field_by, reading_by, fields_by}
use Rattle.params.specs.Message.{Check, good, refuse_if, and_then, walk, first_of, has_number, nowhere, place_in}
use Rattle.params.specs.Keys.{key_of, has_key, value_found, find_in, is_found}
use Rattle.params.specs.declared.Seen.{Seen}
use Rattle.params.specs.Rules.{value_wire, value_text, value_allowed, value_rule, value_field, value_move, value_done, value_check, bytes_rule, key_rule, seen_of, entry_field, entry_move, entry_done, entry_check, item_field, item_judge, item_move, item_done, items_check, inside}

-- ---- one check that is good whenever another is

abbrev Implies : Check → Check → Type 0
Implies one other = one ≡ good → other ≡ good

pub refused_not_good : {A : Type 0} {why : Fault} → Err why ≡ good → A
refused_not_good e = clash cc

refuse_implies : (t : Bool) {t' : Bool} (kind : Kind) (at at' : ℕ) {one other : Check} → t ≡ t' → Implies one other
    → Implies (refuse_if t kind at one) (refuse_if t' kind at' other)
refuse_implies t {t'} kind at at' {one} {other} e f = go t t' e
  where
    go : (t t' : Bool) → t ≡ t' → Implies (refuse_if t kind at one) (refuse_if t' kind at' other)
    go true t' e = λ h. refused_not_good h
    go false true e = clash cc
    go false false e = f

good_implies : Implies good good
good_implies e = e

then_implies : (one one' behind behind' : Check) → Implies one one' → Implies behind behind' → Implies (and_then one behind) (and_then one' behind')
then_implies (Err why) one' behind behind' f g h = refused_not_good h
then_implies (Ok passed) one' behind behind' f g h = rw (f refl) (g h)

choice_implies : (t : Bool) {x y x' y' : Check} → Implies x x' → Implies y y' → Implies (cond t x y) (cond t x' y')
choice_implies true f g = f
choice_implies false f g = g

-- what a good check says of its parts
pub then_good : (one behind : Check) → and_then one behind ≡ good → (one ≡ good) × (behind ≡ good)
then_good (Ok passed) behind e = (refl, e)
then_good (Err why) behind e = refused_not_good e

-- ---- the fields of a part, and the same fields where it stands

module _ (s : List ℕ) (n size : ℕ) (there : n + size ≤ length s) where
  -- a walk over the fields where they stand that is good makes the walk over the part good
  module _ {Seen : Type 0} (judge judge' : Seen → Field → Check) (move : Seen → Field → Seen) (done done' : Seen → Check) (to : ℕ) (room : to ≤ size)
      (judges : (at : ℕ) (field : Field) → Within (part s n size) at to field → (seen : Seen) → Implies (judge seen (field_by n field)) (judge' seen field))
      (moves : (field : Field) (seen : Seen) → move seen (field_by n field) ≡ move seen field)
      (ends : (seen : Seen) → Implies (done seen) (done' seen)) where
    walk_within_implies : (left at : ℕ) (seen : Seen)
        → Implies (walk judge move done (map (reading_by n) (fields_within left (part s n size) to at)) seen) (walk judge' move done' (fields_within left (part s n size) to at) seen)
    unfolding walk fields_within
    walk_within_implies zero at seen = ends seen
    walk_within_implies (suc left) at seen = go (ltb at to) (field_at (part s n size) at to) refl (walk_within_implies left)
      where
        go : (t : Bool) (r : Reading) → field_at (part s n size) at to ≡ r
            → ((next : ℕ) (seen : Seen) → Implies (walk judge move done (map (reading_by n) (fields_within left (part s n size) to next)) seen) (walk judge' move done' (fields_within left (part s n size) to next) seen))
            → Implies (walk judge move done (map (reading_by n) (cond t (and_behind (fields_within left (part s n size) to) r) [])) seen) (walk judge' move done' (cond t (and_behind (fields_within left (part s n size) to) r) []) seen)
        go false r e behind = ends seen
        go true (Err why) e behind = λ h. refused_not_good h
        go true (Ok field) e behind =
            then_implies (judge seen (field_by n field)) (judge' seen field) _ _
            (judges at field (field_within (part s n size) at to field e) seen)
            (rw (moves field seen) (behind field.next (move seen field)))

    walk_implies : (from : ℕ) (seen : Seen) → Implies (walk judge move done (fields_of s (n + from) (n + to)) seen) (walk judge' move done' (fields_of (part s n size) from to) seen)
    unfolding fields_of
    walk_implies from seen = subst (λ (l : List Reading). Implies (walk judge move done l seen) (walk judge' move done' (fields_of (part s n size) from to) seen)) (sym (fields_by s n size there from to room)) (walk_within_implies (to - from) from seen)

  -- a search over the fields where they stand, and over those of the part, give what is related
  module _ {A : Type 0} (R : A → A → Type 0) (test test' : Field → Bool) (answer answer' : Field → A) (none none' : A) (to : ℕ) (room : to ≤ size)
      (tests : (at : ℕ) (field : Field) → Within (part s n size) at to field → test (field_by n field) ≡ test' field)
      (answers : (at : ℕ) (field : Field) → Within (part s n size) at to field → R (answer (field_by n field)) (answer' field))
      (neither : R none none') where
    search_within_related : (left at : ℕ)
        → R (first_of test answer none (map (reading_by n) (fields_within left (part s n size) to at))) (first_of test' answer' none' (fields_within left (part s n size) to at))
    unfolding first_of fields_within
    search_within_related zero at = neither
    search_within_related (suc left) at = go (ltb at to) (field_at (part s n size) at to) refl (search_within_related left)
      where
        pick : (t t' : Bool) {x x' y y' : A} → t ≡ t' → R x x' → R y y' → R (cond t x y) (cond t' x' y')
        pick true true e f g = f
        pick true false e f g = clash cc
        pick false true e f g = clash cc
        pick false false e f g = g

        go : (t : Bool) (r : Reading) → field_at (part s n size) at to ≡ r
            → ((next : ℕ) → R (first_of test answer none (map (reading_by n) (fields_within left (part s n size) to next))) (first_of test' answer' none' (fields_within left (part s n size) to next)))
            → R (first_of test answer none (map (reading_by n) (cond t (and_behind (fields_within left (part s n size) to) r) []))) (first_of test' answer' none' (cond t (and_behind (fields_within left (part s n size) to) r) []))
        go false r e behind = neither
        go true (Err why) e behind = neither
        go true (Ok field) e behind =
            let w = field_within (part s n size) at to field e in
            pick (test (field_by n field)) (test' field) (tests at field w) (answers at field w) (behind field.next)

    search_related : (from : ℕ) → R (first_of test answer none (fields_of s (n + from) (n + to))) (first_of test' answer' none' (fields_of (part s n size) from to))
    unfolding fields_of
    search_related from = subst (λ (l : List Reading). R (first_of test answer none l) (first_of test' answer' none' (fields_of (part s n size) from to))) (sym (fields_by s n size there from to room)) (search_within_related (to - from) from)

  -- ---- texts and keys

  between_by : (at next : ℕ) → at ≤ next → next ≤ size → between s (n + at) (n + next) ≡ between (part s n size) at next
  between_by at next h l =
      let room : n + next - (n + at) ≡ next - at = omega arith in
      rw room (sym (part_part s n size at (next - at) (omega arith)))

  key_by : (from to : ℕ) → to ≤ size → key_of s (n + from) (n + to) ≡ key_of (part s n size) from to
  unfolding key_of place_in
  key_by from to room =
      search_related (λ (there here : Place). part_at s there ≡ part_at (part s n size) here) (has_number 1) (has_number 1) place_of place_of nowhere nowhere to room
      (λ at field w. refl)
      (λ at field w. let e = w.ends in let i = w.inside in between_by field.at field.next e (omega arith))
      refl
      from

  found_by : (from to : ℕ) (key : List ℕ) → to ≤ size → is_found (find_in s (n + from) (n + to) key) ≡ is_found (find_in (part s n size) from to key)
  unfolding find_in
  found_by from to key room =
      search_related (λ (there here : Option Place). is_found there ≡ is_found here) (has_key s key) (has_key (part s n size) key) (value_found s) (value_found (part s n size)) None None to room
      (λ at field w. let i = w.inside in ap (λ (l : List ℕ). same l key) (key_by field.at field.next (omega arith)))
      (λ at field w. refl)
      refl
      from

  -- ---- the rules

  value_rule_implies : (held : ℕ) (field : Field) → field.at ≤ field.next → field.next ≤ size → Implies (value_rule s held (field_by n field)) (value_rule (part s n size) held field)
  unfolding value_rule value_text
  value_rule_implies held field h l =
      let at = field.tag in
      let number = field.number in
      let text = ap (λ (t : List ℕ). not (cond (eqb number 3) (well_formed t) true)) (between_by field.at field.next h l) in
      refuse_implies (not (value_wire number field.wire)) WireType (n + at) at refl
      (refuse_implies (eqb held number) Repeated (n + at) at refl
      (refuse_implies (not (cond (eqb number 3) (well_formed (between s (n + field.at) (n + field.next))) true)) BadText (n + at) at text
      (refuse_implies (not (eqb held 0 && value_allowed number field.value)) Other (n + at) at refl good_implies)))

  bytes_rule_implies : (most : ℕ) (repeated : Bool) (field : Field) → Implies (bytes_rule most repeated (field_by n field)) (bytes_rule most repeated field)
  unfolding bytes_rule
  bytes_rule_implies most repeated field =
      let at = field.tag in
      refuse_implies (leb field.number most && not (eqb field.wire 2)) WireType (n + at) at refl
      (refuse_implies repeated Repeated (n + at) at refl
      (refuse_implies (ltb most field.number) Other (n + at) at refl good_implies))

  key_rule_implies : (from tag : ℕ) (field : Field) → tag ≤ size → field.at ≤ field.next → field.next ≤ size
      → Implies (key_rule s (n + from) (n + tag) (field_by n field)) (key_rule (part s n size) from tag field)
  unfolding key_rule
  key_rule_implies from tag field room h l =
      let at = field.tag in
      let key = between s (n + field.at) (n + field.next) in
      let text : key ≡ between (part s n size) field.at field.next = between_by field.at field.next h l in
      refuse_implies (is_found (find_in s (n + from) (n + tag) key)) Repeated (n + at) at
      (ap (λ (t : List ℕ). is_found (find_in s (n + from) (n + tag) t)) text ∙ found_by from tag (between (part s n size) field.at field.next) room)
      (refuse_implies (not (well_formed key)) BadText (n + at) at (ap (λ (t : List ℕ). not (well_formed t)) text) good_implies)

  entry_done_implies : (from tag to : ℕ) → tag ≤ size → (seen : Seen) → Implies (entry_done s (n + from) (n + tag) (n + to) seen) (entry_done (part s n size) from tag to seen)
  unfolding entry_done
  entry_done_implies from tag to room seen =
      refuse_implies (not seen.key && is_found (find_in s (n + from) (n + tag) [])) Repeated (n + to) to
      (ap (λ (t : Bool). not seen.key && t) (found_by from tag [] room))
      (refuse_implies (not seen.value) Other (n + to) to refl good_implies)

  -- ---- Values, entries, Structs and lists, where the same goes for what is inside them

  module _ (inner inner' : Field → Check) (inners : (field : Field) → field.at ≤ field.next → field.next ≤ size → Implies (inner (field_by n field)) (inner' field)) where
    value_implies : (from to : ℕ) → to ≤ size → Implies (value_check inner s (n + from) (n + to)) (value_check inner' (part s n size) from to)
    unfolding value_check value_field
    value_implies from to room =
        walk_implies (value_field inner s) (value_field inner' (part s n size)) value_move (value_done (n + to)) (value_done to) to room
        (λ at field w held. let i = w.inside in
        then_implies _ _ _ _ (value_rule_implies held field w.ends (omega arith)) (choice_implies (ltb field.number 5) good_implies (inners field w.ends (omega arith))))
        (λ field held. refl)
        (λ held. refuse_implies (not (not (eqb held 0))) Other (n + to) to refl good_implies)
        from
        0

    entry_implies : (from tag start to : ℕ) → tag ≤ size → to ≤ size
        → Implies (entry_check inner s (n + from) (n + tag) (n + start) (n + to)) (entry_check inner' (part s n size) from tag start to)
    unfolding entry_check entry_field
    entry_implies from tag start to room more =
        walk_implies (entry_field inner s (n + from) (n + tag)) (entry_field inner' (part s n size) from tag) entry_move (entry_done s (n + from) (n + tag) (n + to)) (entry_done (part s n size) from tag to) to more
        (λ at field w seen. let i = w.inside in
        then_implies _ _ _ _ (bytes_rule_implies 2 (seen_of seen field.number) field)
        (choice_implies (eqb field.number 1) (key_rule_implies from tag field room w.ends (omega arith)) (value_implies field.at field.next (omega arith))))
        (λ field seen. refl)
        (entry_done_implies from tag to room)
        start
        (record { key = false; value = false })

    items_implies : (list : Bool) (from to : ℕ) → to ≤ size → Implies (items_check inner s list (n + from) (n + to)) (items_check inner' (part s n size) list from to)
    unfolding items_check item_field
    items_implies list from to room =
        walk_implies (item_judge inner s list (n + from)) (item_judge inner' (part s n size) list from) item_move item_done item_done to room
        (λ at field w seen. let e = w.ends in let b = w.behind in let i = w.inside in let f = w.first in
        then_implies _ _ _ _ (bytes_rule_implies 1 false field)
        (choice_implies list (value_implies field.at field.next (omega arith)) (entry_implies from field.tag field.at field.next (omega arith) (omega arith))))
        (λ field seen. refl)
        (λ seen e. e)
        from
        tt

  inside_implies : (levels levels' : ℕ) → levels ≤ levels' → (field : Field) → field.at ≤ field.next → field.next ≤ size
      → Implies (inside levels s (field_by n field)) (inside levels' (part s n size) field)
  unfolding inside
  inside_implies zero levels' h field a l = λ e. refused_not_good e
  inside_implies (suc levels) zero h field a l = absurd (omega arith)
  inside_implies (suc levels) (suc levels') h field a l =
      items_implies (inside levels s) (inside levels' (part s n size)) (inside_implies levels levels' (omega arith)) (eqb field.number 6) field.at field.next l

  pub alone_implies : (levels levels' : ℕ) → levels ≤ levels' → value_check (inside levels s) s n (n + size) ≡ good
      → value_check (inside levels' (part s n size)) (part s n size) 0 (length (part s n size)) ≡ good
  alone_implies levels levels' h e =
      rw (length_part s n size there)
      (value_implies (inside levels s) (inside levels' (part s n size)) (inside_implies levels levels' h) 0 size (omega arith) (rw add-zero e))
