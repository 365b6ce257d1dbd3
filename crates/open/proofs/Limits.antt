-- The limit that is heard with an OPEN is in the limits. Assumes nothing.
use Rattle.std.specs.Prelude.{Ok, Err}
use Prim.Native.Nat.{◌+◌, ℕ}
use mathlib.Core.List.{List}
use mathlib.Core.Bool.{Bool, ◌&&◌, ◌||◌, not}
use lib.Dec.{eqb, leb, ltb}
use borrow.Author.Tests.{eqb-true, not-false}
use Rattle.bytes_be.specs.Part.{part_at, same}
use Rattle.bytes_be.proofs.Tests.{last_false}
use Rattle.terms.specs.Announced.{announced_number}
use Rattle.terms.proofs.Limits.{Bounded, Limited, limit_bounded}
use Rattle.open.specs.declared.Opening.{Opening}
use Rattle.open.specs.declared.Refusal.TheVariants.{OutOfRange, UnknownSocket, OtherPipe, OtherFormat}
use Rattle.open.specs.Frame.{frame_check, parts_of}
use Rattle.open.specs.Offer.{Offer}
use Rattle.open.specs.Open.{or_nowhere, opening_of, if_good, readable, out_of_range, in_range, known_socket, offered_socket, offered_pipe, offered_format, ◌then◌, open_of, offered, heard_by}
use Rattle.params.specs.Message.{Check}
use Rattle.open.proofs.Stages.{OfOpening, stage_holds, then_holds}

-- the opening that a readable frame says, and one that is heard
abbrev SaidBounded : Opening → Type 0
SaidBounded opening = Bounded opening.announced

abbrev pub HeardBounded : Opening → Type 0
HeardBounded opening = Limited opening.announced

readable_bounded : (s : List ℕ) (from to : ℕ) → OfOpening SaidBounded (readable s from to)
unfolding readable opening_of
readable_bounded s from to = go (frame_check s from to)
  where
    go : (check : Check) → OfOpening SaidBounded (if_good check (opening_of s (parts_of s from to)))
    go (Ok passed) = let place = or_nowhere (parts_of s from to).parameters in limit_bounded s place.at (place.at + place.length)
    go (Err why) = tt

range_bounded : (opening : Opening) → SaidBounded opening → OfOpening HeardBounded (in_range opening)
unfolding in_range out_of_range
range_bounded opening said =
    let others : Bool =
    eqb opening.name.length 0 || ltb 255 opening.name.length || ltb 255 opening.format.length || eqb opening.socket 0 in
    let fine : Bool = eqb (announced_number opening.announced) 0 in
    stage_holds HeardBounded (out_of_range opening) OutOfRange opening
    (λ inside. said (eqb-true _ _ (not-false fine (last_false others (not fine) inside))))

-- the stages behind that one change nothing of it

open_bounded : (s : List ℕ) (from to : ℕ) → OfOpening HeardBounded (open_of s from to)
unfolding open_of known_socket
open_bounded s from to =
    then_holds HeardBounded HeardBounded (readable s from to then in_range) known_socket
    (λ opening there. stage_holds HeardBounded (leb 3 opening.socket) UnknownSocket opening (λ passed. there))
    (then_holds SaidBounded HeardBounded (readable s from to) in_range range_bounded (readable_bounded s from to))

pipe_bounded : (s : List ℕ) (flow : ℕ) (name : List ℕ) (opening : Opening) → HeardBounded opening → OfOpening HeardBounded (offered_pipe s flow name opening)
unfolding offered_pipe
pipe_bounded s flow name opening there =
    stage_holds HeardBounded (not (same (part_at s opening.name) name) || not (eqb opening.socket (offered_socket flow))) OtherPipe opening (λ passed. there)

format_bounded : (s format : List ℕ) (opening : Opening) → HeardBounded opening → OfOpening HeardBounded (offered_format s format opening)
unfolding offered_format
format_bounded s format opening there =
    stage_holds HeardBounded (not (eqb opening.format.length 0) && not (same (part_at s opening.format) format)) OtherFormat opening (λ passed. there)

-- the limit of an opening that is heard, or 50,000,000 where it announces none, is in the limits
pub heard_bounded : (s : List ℕ) (from to flow : ℕ) (offer : Offer) → OfOpening HeardBounded (heard_by s from to flow offer)
unfolding offered
heard_bounded s from to flow offer =
    then_holds HeardBounded HeardBounded (open_of s from to then offered_pipe s flow offer.name) (offered_format s offer.format) (format_bounded s offer.format)
    (then_holds HeardBounded HeardBounded (open_of s from to) (offered_pipe s flow offer.name) (pipe_bounded s flow offer.name) (open_bounded s from to))
