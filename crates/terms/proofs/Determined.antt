-- For a lookup that hands back memory: any two parts which meet the contract, at the same arguments, have the same block, offset and bytes.
-- Assumes nothing.
use Rattle.std.specs.Prelude.{Ok, Err}
use mathlib.Core.Path.{◌≡◌}
use Prim.Native.Nat.{ℕ}
use mathlib.Core.List.{List}
use denote.Ref.{Bor}
use Rattle.bytes_be.specs.declared.Place.{Place}
use Rattle.bytes_be.proofs.Determined.{coincide}
use Rattle.terms.specs.Lookup.{Answer, IsPart, PartOf}

-- the same memory, whatever the references are called
abbrev SameMemory : Bor (List ℕ) → Bor (List ℕ) → Type 0
SameMemory r r' = (r.ref_ptr.0 ≡ r'.ref_ptr.0) × (r.ref_ptr.1 ≡ r'.ref_ptr.1) × (r.now ≡ r'.now)

parts_coincide : {s r r' : Bor (List ℕ)} {place : Place} → IsPart s r place → IsPart s r' place → SameMemory r r'
parts_coincide one other = (coincide one.block other.block, coincide one.start other.start, coincide one.bytes other.bytes)

pub part_determined : (client defaults r r' : Bor (List ℕ)) (answer : Answer) → PartOf client defaults r answer → PartOf client defaults r' answer →
    SameMemory r r'
part_determined client defaults r r' (Ok term) one other = parts_coincide one other
part_determined client defaults r r' (Err refusal) one other = parts_coincide one other
