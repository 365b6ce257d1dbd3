-- The data frame of a message that was read lies in the message, and its type-data is a number of two bytes; one that was not is refused by a
-- number of 10 to 15. Assumes nothing.
use mathlib.Core.Path.{◌≡◌, refl, subst}
use Prim.Native.Nat.{◌+◌, ◌<◌, ◌^◌, ◌≤◌, zero-le, ℕ}
use mathlib.Core.List.{List}
use mathlib.Core.Bool.{Bool, true, false, cond, ◌&&◌}
use lib.Dec.{ltb, eqb}
use lib.ListN.{length}
use borrow.Author.Tests.{ltb-true}
use Rattle.bytes_be.specs.Number.{from_bytes, number_at}
use Rattle.bytes_be.specs.Part.{part_at}
use Rattle.bytes_be.proofs.Numbers.{Bytes, bytes_part, number_below}
use Rattle.bytes_be.proofs.Tests.{clash, took_first}
use Rattle.std.specs.Prelude.{Option, Some, None, Result, Ok, Err}
use Rattle.std.proofs.lemmas.Result.{IfOk-at_ok}
use Rattle.bundle.specs.Reading.{count_of, frame_of, good, place_of}
use Rattle.bundle.proofs.Sums.{body_inside}
use Rattle.control.specs.declared.MessageType.{MessageType}
use Rattle.control.specs.declared.Signed.{Signed}
use Rattle.control.specs.declared.Refusal.{Refusal as Refusal-of-control}
use Rattle.control.specs.Frame.{signature, signed_of}
use Rattle.bytes_be.specs.declared.Place.{Place}
use Rattle.message.specs.declared.Message.{Message}
use Rattle.message.specs.declared.Reason.{Reason}
use Rattle.message.specs.declared.Refusal.{Refusal}
use Rattle.message.specs.Reading.{body_in, body_of, body_place, carries, reading_of, refusal_number}
use Rattle.message.proofs.Stages.{OfMessage, WhileReading, by_stages, reason_numbered}

module _ (s : List ℕ) where
  abbrev pub BodyInside : Option Place → Type 0
  BodyInside body = (body_place body).at + (body_place body).length ≤ length s

  abbrev pub Inside : Result Message (Refusal Reason) → Type 0
  Inside reading = OfMessage (λ (m : Message). BodyInside m.body) reading

  second_frame : BodyInside (body_in (frame_of s 1))
  unfolding frame_of
  second_frame = go (good s) refl
    where
      counted : (t : Bool) → good s ≡ true → ltb 1 (count_of s) ≡ t → BodyInside (body_in (cond t (Ok (Some (place_of s 1))) (Ok None)))
      counted true is-good more = body_inside s is-good 1 (ltb-true 1 (count_of s) more)
      counted false is-good more = zero-le

      go : (t : Bool) → good s ≡ t → BodyInside (body_in (cond t (cond (ltb 1 (count_of s)) (Ok (Some (place_of s 1))) (Ok None)) (Err (record {}))))
      go true is-good = counted (ltb 1 (count_of s)) is-good refl
      go false is-good = zero-le

  body_there : (message : MessageType) (flags : ℕ) → BodyInside (body_of s message flags)
  unfolding body_of
  body_there message flags = go (carries message flags)
    where
      go : (t : Bool) → BodyInside (cond t (body_in (frame_of s 1)) None)
      go true = second_frame
      go false = zero-le

  pub read_inside : Inside (reading_of s)
  read_inside = by_stages (λ (m : Message). BodyInside m.body) s (λ contents signed message counted is_signed framed. body_there message signed.flags)

-- of a message that is read
pub read_within : (s : List ℕ) (m : Message) → reading_of s ≡ Ok m → (body_place m.body).at + (body_place m.body).length ≤ length s
read_within s m is = subst (Inside s) is (read_inside s)

unsigned_frame : {why : Refusal-of-control} {signed : Signed} → Err why ≡ Ok signed → ⊥
unsigned_frame e = clash cc

-- the type-data of a frame that is signed
signed_small : (s : List ℕ) → Bytes s → (signed : Signed) → signed_of s ≡ Ok signed → signed.type_data < 256 ^ 2
unfolding signed_of
signed_small s bytes signed e =
    let fields = took_first (eqb (length s) 8 && eqb (number_at 4 s 0) (from_bytes signature)) unsigned_frame e in
    IfOk-at_ok (λ (x : Signed). x.type_data < 256 ^ 2) fields.1 (number_below 2 s 6 bytes)

-- the type-data of a message that is read
pub read_small : (s : List ℕ) → Bytes s → (m : Message) → reading_of s ≡ Ok m → m.type_data < 256 ^ 2
read_small s bytes m is =
    subst (OfMessage (λ (m : Message). m.type_data < 256 ^ 2)) is
    (by_stages (λ (m : Message). m.type_data < 256 ^ 2) s
    (λ contents signed message counted is_signed framed. signed_small (part_at s contents.control) (bytes_part s contents.control.at contents.control.length bytes) signed is_signed))

-- the number of a message that is not read
pub read_refused : (s : List ℕ) (refusal : Refusal Reason) → reading_of s ≡ Err refusal → WhileReading (refusal_number refusal)
read_refused s refusal is = reason_numbered refusal.why
