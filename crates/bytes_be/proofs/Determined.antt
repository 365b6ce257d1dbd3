-- Where a contract equals a result, a buffer or a record to a definition, any two that meet it coincide; and any two parts of the same memory at
-- one place have the same block, offset and bytes. Assumes nothing.
use mathlib.Core.Path.{◌≡◌, sym, ◌∙◌}
use mathlib.Core.List.{List}
use Prim.Native.Nat.{ℕ}
use denote.Ref.{Bor}
use Rattle.bytes_be.specs.declared.Place.{Place}
use Rattle.bytes_be.specs.Part.{IsPartOf}

pub coincide : {A : Type 0} {one other defined : A} → one ≡ defined → other ≡ defined → one ≡ other
coincide first second = first ∙ sym second

pub part_determined : {s r r' : Bor (List ℕ)} {place : Place} → IsPartOf s r place → IsPartOf s r' place →
    (r.ref_ptr.0 ≡ r'.ref_ptr.0) × (r.ref_ptr.1 ≡ r'.ref_ptr.1) × (r.now ≡ r'.now)
part_determined one other = (coincide one.block other.block, coincide one.start other.start, coincide one.bytes other.bytes)
