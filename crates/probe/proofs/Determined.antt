-- For each contract of several equations that `Entries` has: any two results which meet it, at the same arguments, coincide. Assumes nothing.
use Rattle.std.specs.Prelude.{Result}
use mathlib.Core.Path.{◌≡◌}
use mathlib.Core.Bool.{Bool}
use mathlib.Core.List.{List}
use Prim.Native.Nat.{ℕ}
use Rattle.bytes_be.proofs.Determined.{coincide}
use Rattle.bundle.proofs.Determined.{written_determined}
use Rattle.open.specs.declared.Opening.{Opening}
use Rattle.open.specs.declared.Refusal.{Refusal}
use Rattle.std.specs.Prelude.{Result, Ok, Err}
use Rattle.control.specs.declared.MessageType.{MessageType}
use Rattle.control.specs.declared.Refusal.{Refusal as Refusal-of-control}
use Rattle.open.specs.Offer.{Offer}
use Rattle.probe.specs.Entries.{ContentsAnswer, HandOutAnswer, ControlAnswer, Wrote, FieldAnswer, Stored}
use Rattle.probe.specs.Entries.{CheckAnswer, LimitAnswer, OpenAnswer, OpenFrameAnswer}

pub contents_determined : {bundle : List ℕ} {number number' : ℕ} {slots slots' : List ℕ} → ContentsAnswer bundle number slots →
    ContentsAnswer bundle number' slots' → (number ≡ number') × (slots ≡ slots')
contents_determined one other = (coincide one.numbered other.numbered, coincide one.told other.told)

pub hand_out_determined : {bundle : List ℕ} {position number number' : ℕ} {slots slots' : List ℕ} → HandOutAnswer bundle position number slots →
    HandOutAnswer bundle position number' slots' → (number ≡ number') × (slots ≡ slots')
hand_out_determined one other = (coincide one.numbered other.numbered, coincide one.told other.told)

pub control_determined : {frame : List ℕ} {number number' : ℕ} {slots slots' : List ℕ} → ControlAnswer frame number slots →
    ControlAnswer frame number' slots' → (number ≡ number') × (slots ≡ slots')
control_determined one other = (coincide one.numbered other.numbered, coincide one.told other.told)

pub wrote_determined : (known : Result MessageType Refusal-of-control) (flags type-data : ℕ) (data-frames : List (List ℕ)) (before : List ℕ) {count count' : ℕ}
    {after after' : List ℕ} → Wrote known flags type-data data-frames before count after →
    Wrote known flags type-data data-frames before count' after' → (count ≡ count') × (after ≡ after')
wrote_determined (Ok message) flags type-data data-frames before one other = written_determined one other
wrote_determined (Err why) flags type-data data-frames before one other = (coincide one.0 other.0, coincide one.1 other.1)

pub field_determined : {bytes : List ℕ} {at end number number' : ℕ} {slots slots' : List ℕ} → FieldAnswer bytes at end number slots →
    FieldAnswer bytes at end number' slots' → (number ≡ number') × (slots ≡ slots')
field_determined one other = (coincide one.numbered other.numbered, coincide one.told other.told)

pub stored_determined : {before : List ℕ} {at number count count' : ℕ} {after after' : List ℕ} → Stored before at number count after →
    Stored before at number count' after' → (count ≡ count') × (after ≡ after')
stored_determined one other = (coincide one.counted other.counted, coincide one.left other.left)

pub check_determined : {value : Bool} {bytes : List ℕ} {number number' : ℕ} {slots slots' : List ℕ} → CheckAnswer value bytes number slots →
    CheckAnswer value bytes number' slots' → (number ≡ number') × (slots ≡ slots')
check_determined one other = (coincide one.numbered other.numbered, coincide one.told other.told)

pub limit_determined : {parameters : List ℕ} {number number' : ℕ} {slots slots' : List ℕ} → LimitAnswer parameters number slots →
    LimitAnswer parameters number' slots' → (number ≡ number') × (slots ≡ slots')
limit_determined one other = (coincide one.numbered other.numbered, coincide one.told other.told)

pub open_determined : {said : (Result Opening Refusal)} {number number' : ℕ} {slots slots' : List ℕ} → OpenAnswer said number slots → OpenAnswer said number' slots' →
    (number ≡ number') × (slots ≡ slots')
open_determined one other = (coincide one.numbered other.numbered, coincide one.told other.told)

pub open_frame_determined : {flow : ℕ} {asked : Offer} {limit at : ℕ} {before : List ℕ} {number number' frame-length frame-length' : ℕ}
    {after after' : List ℕ} → OpenFrameAnswer flow asked limit at before number frame-length after →
    OpenFrameAnswer flow asked limit at before number' frame-length' after' →
    (number ≡ number') × (frame-length ≡ frame-length') × (after ≡ after')
open_frame_determined one other =
    (coincide one.numbered other.numbered, coincide one.told other.told, coincide one.left other.left)
