-- The cases of a lookup in the client's parameters over the default Struct, and that a term lies in its layer. Assumes nothing.
use Rattle.std.specs.Prelude.{Option, Some, None, Ok, Err}
use Prim.Native.Nat.{ℕ, ◌+◌, ◌≤◌}
use mathlib.Core.Path.{◌≡◌, refl, sym, ap, ◌∙◌, subst}
use mathlib.Core.List.{List, [], ◌∷◌}
use mathlib.Core.Bool.{cond}
use lib.ListN.{length}
use lib.Dec.{eqb}
use borrow.Author.Tests.{eq-eqb, ne_eqb}
use denote.Ref.{Bor}
use Rattle.bytes_be.proofs.Tests.{clash}
use Rattle.bytes_be.specs.declared.Place.{Place}
use Rattle.wire.specs.declared.Fault.{Fault}
use Rattle.params.specs.Keys.{find_in}
use Rattle.params.specs.Rules.{struct_check}
use Rattle.params.proofs.Finds.{find_lies}
use Rattle.terms.specs.declared.Term.{Term}
use Rattle.terms.specs.declared.Refusal.{Refusal}
use Rattle.terms.specs.declared.Refusal.TheVariants.{Absent}
use Rattle.terms.specs.Lookup.{Answer, term_in, if_readable, read_layers, find_layers, in_layer, look_up, PartOf}
use Rattle.params.specs.Message.{good, Check}

module _ (client defaults key : List ℕ) (first : Check) (read : first ≡ struct_check client 0 (length client)) where
  pub client_unreadable : (why : Fault) → first ≡ Err why → (term : Answer) → term ≡ if_readable 0 first (Err Absent) → term ≡ look_up (client ∷ defaults ∷ []) key
  unfolding look_up read_layers
  client_unreadable why e term is = rw e at is ∙ sym (rw (← read, e))

  module _ (passes : first ≡ good) (second : Check) (also : second ≡ struct_check defaults 0 (length defaults)) where
    pub defaults_unreadable : (why : Fault) → second ≡ Err why → (term : Answer) → term ≡ if_readable 1 second (Err Absent) → term ≡ look_up (client ∷ defaults ∷ []) key
    unfolding look_up read_layers
    defaults_unreadable why e term is = rw e at is ∙ sym (rw (← read, passes, ← also, e))

    module _ (both : second ≡ good) (found : Option Place) (looked : found ≡ find_in client 0 (length client) key) where
      pub in_client : (term : Answer) → term ≡ in_layer 0 found (Err Absent) → (place : Place) → found ≡ Some place → term ≡ look_up (client ∷ defaults ∷ []) key
      unfolding look_up read_layers find_layers
      in_client term is place e = rw e at is ∙ sym (rw (← read, passes, ← also, both, ← looked, e))

      pub in_defaults : found ≡ None → (other : Option Place) → other ≡ find_in defaults 0 (length defaults) key → (term : Answer) → term ≡ in_layer 1 other (Err Absent)
          → term ≡ look_up (client ∷ defaults ∷ []) key
      unfolding look_up read_layers find_layers
      in_defaults e other is term q = q ∙ sym (rw (← read, passes, ← also, both, ← looked, e, ← is))

-- ---- a term lies in its layer

refused_not_in : {A : Type 0} {refusal : Refusal} {layer : ℕ} {place : Place} → Err refusal ≡ term_in layer place → A
refused_not_in e = clash cc

same_term : {one other : Term} → ◌≡◌ {A = Answer} (Ok one) (Ok other) → one ≡ other
same_term e = cc

same_layer : {layer other : ℕ} {place there : Place} → term_in layer place ≡ term_in other there → (layer ≡ other) × (place ≡ there)
same_layer e = let same = same_term e in (ap (λ (term : Term). term.layer) same, ap (λ (term : Term). term.place) same)

-- what holds of every term that a readable Struct has holds of the term that a lookup finds in its layer
pub of_its_layer : (P : List ℕ → Place → Type 0) (client defaults key : List ℕ)
    → ((s : List ℕ) (there : Place) → struct_check s 0 (length s) ≡ good → find_in s 0 (length s) key ≡ Some there → P s there)
    → (layer : ℕ) (place : Place) → look_up (client ∷ defaults ∷ []) key ≡ term_in layer place → P (cond (eqb layer 0) client defaults) place
unfolding look_up read_layers find_layers
of_its_layer P client defaults key each layer place e =
    go (struct_check client 0 (length client)) refl (struct_check defaults 0 (length defaults)) refl (find_in client 0 (length client) key) refl
    (find_in defaults 0 (length defaults) key) refl e
  where
    moved : (other : ℕ) (there : Place) → term_in other there ≡ term_in layer place → P (cond (eqb other 0) client defaults) there → P (cond (eqb layer 0) client defaults) place
    moved other there e h = let same = same_layer e in rw (← same.0, ← same.1) h

    go : (first : Check) → struct_check client 0 (length client) ≡ first → (second : Check) → struct_check defaults 0 (length defaults) ≡ second
        → (found : Option Place) → find_in client 0 (length client) key ≡ found → (other : Option Place) → find_in defaults 0 (length defaults) key ≡ other
        → if_readable 0 first (if_readable 1 second (in_layer 0 found (in_layer 1 other (Err Absent)))) ≡ term_in layer place → P (cond (eqb layer 0) client defaults) place
    go (Err why) a second b found p other q e = refused_not_in e
    go (Ok passed) a (Err why) b found p other q e = refused_not_in e
    go (Ok passed) a (Ok here) b (Some there) p other q e = moved 0 there e (each client there a p)
    go (Ok passed) a (Ok here) b None p (Some there) q e = moved 1 there e (each defaults there b q)
    go (Ok passed) a (Ok here) b None p None q e = refused_not_in e

pub term_lies : (client defaults key : List ℕ) (layer : ℕ) (place : Place) → look_up (client ∷ defaults ∷ []) key ≡ term_in layer place
    → place.at + place.length ≤ length (cond (eqb layer 0) client defaults)
term_lies client defaults key =
    of_its_layer (λ (s : List ℕ) (place : Place). place.at + place.length ≤ length s) client defaults key
    (λ s there good e. find_lies s 0 (length s) key there e)

-- ---- the part that a lookup gives

module _ (client defaults : Bor (List ℕ)) (key : List ℕ) (answer : Answer) (is : answer ≡ look_up (client.now ∷ defaults.now ∷ []) key) where
  module _ (layer : ℕ) (place : Place) (e : answer ≡ term_in layer place) where
    in_its_layer : place.at + place.length ≤ length (cond (eqb layer 0) client.now defaults.now)
    in_its_layer = term_lies client.now defaults.now key layer place (sym is ∙ e)

    pub lies_in_client : layer ≡ 0 → place.at + place.length ≤ length client.now
    lies_in_client h = rw (eq-eqb layer 0 h) at in_its_layer

    pub lies_in_defaults : (layer ≡ 0 → ⊥) → place.at + place.length ≤ length defaults.now
    lies_in_defaults n = rw (ne_eqb layer 0 n) at in_its_layer

  -- a part that is right for the answer's case is right for the lookup
  pub part_of : (case : Answer) → answer ≡ case → (r : Bor (List ℕ)) → PartOf client defaults r case
      → PartOf client defaults r (look_up (client.now ∷ defaults.now ∷ []) key)
  part_of case e r h = subst (PartOf client defaults r) (sym e ∙ is) h
