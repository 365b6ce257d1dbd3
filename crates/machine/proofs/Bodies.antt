-- What a host is told says whether there is a body: DATA that is heard has one where it has a data frame, and nothing else has. Assumes nothing.
use Rattle.std.specs.Prelude.{Result, Ok, Err, Option, Some, None}
use mathlib.Core.Path.{◌≡◌, ◌∙◌, ap, refl, subst, sym}
use Prim.Native.Nat.{ℕ, ◌+◌}
use mathlib.Core.List.{List}
use mathlib.Core.Bool.{Bool, true, false, cond, not, ◌&&◌}
use lib.Dec.{eqb, leb}
use Rattle.bytes_be.specs.declared.Place.{Place}
use Rattle.bytes_be.proofs.Tests.{clash}
use Rattle.control.specs.declared.MessageType.{MessageType}
use Rattle.control.specs.declared.MessageType.TheVariants.{Open, Ready, Noop, Data, Close}
use Rattle.control.specs.Frame.{ack_reply, type_of}
use Rattle.open.specs.Open.{heard_by}
use Rattle.message.specs.Reading.{bad_frames, body_place}
use Rattle.message.specs.Held.{body_behind}
use Rattle.message.proofs.Bodies.{read_placed}
use Rattle.receiving.specs.Numbers.{Answer, Heard as Answer-as-Heard, Stays, Closes, Received}
use Rattle.open.specs.declared.Opening.{Opening}
use Rattle.open.specs.declared.Refusal.{Refusal}
use Rattle.receiving.specs.Hearing.{accepted, body_carried, carried_as, carried_by, open_at, open_carried, Carried}
use Rattle.receiving.specs.Refusing.{refused, unchanged}
use Rattle.sending.specs.Calls.{is_missing}
use Rattle.machine.specs.Bodies.{FramesTellBody, body_heard, tells_body}
use Rattle.machine.proofs.Stages.{received_holds}

module _ (s : List ℕ) where
  -- whether what is carried has no body; nothing is asked of what is refused
  abbrev Lacks : Bool → Carried → Type 0
  Lacks none (Ok content) = is_missing (body_heard s content) ≡ none
  Lacks none (Err refusal) = Unit

  -- the frame of an OPEN is no body
  opening_lacks : (said : Result Opening Refusal) → Lacks true (open_carried said)
  opening_lacks (Ok opening) = refl
  opening_lacks (Err refusal) = tt

  data_lacks : (flags frames : ℕ) (place : Place) → bad_frames Data flags frames ≡ false
      → Lacks (not (not (eqb frames 0))) (Ok (body_carried (body_behind Data flags frames place)))
  data_lacks flags frames place passes = go (eqb flags ack_reply) (eqb frames 0) passes
    where
      go : (confirms none : Bool) → cond confirms (not none) (leb 2 frames) ≡ false → Lacks (not (not none)) (Ok (body_carried (cond (not confirms && not none) (Some place) None)))
      go true true passes = refl
      go true false passes = clash cc
      go false true passes = refl
      go false false passes = refl

  carried_lacks : (said : Result Opening Refusal) (message : MessageType) (flags frames : ℕ) (place : Place) → bad_frames message flags frames ≡ false
      → Lacks (not (tells_body (type_of message) frames)) (carried_as message (open_carried said) (Ok (body_carried (body_behind message flags frames place))))
  carried_lacks said Open flags frames place passes = opening_lacks said
  carried_lacks said Ready flags frames place passes = refl
  carried_lacks said Noop flags frames place passes = refl
  carried_lacks said Data flags frames place passes = data_lacks flags frames place passes
  carried_lacks said Close flags frames place passes = refl

  -- what is told of an answer
  abbrev Tells : Answer → Type 0
  Tells (Answer-as-Heard heard) = is_missing (body_heard s heard.content) ≡ not (tells_body (type_of heard.message) heard.frames)
  Tells (Stays number) = Unit
  Tells (Closes number) = Unit

pub frames_tell_body : FramesTellBody
unfolding accepted carried_by open_at refused unchanged
frames_tell_body e s pipe room heard is =
    subst (Tells s) is
    (received_holds (λ (received : Received). Tells s received.answer) e s pipe (λ number. tt) (λ number code. tt)
    (λ m content passed.
    let placed = read_placed s m passed.read in
    let place = body_place m.body in
    let said = heard_by s place.at (place.at + place.length) e.flow pipe in
    let carries = ap (λ (body : Option Place). carried_as m.message (open_carried said) (Ok (body_carried body))) placed.there in
    subst (Lacks s (not (tells_body (type_of m.message) m.frames))) (sym carries ∙ passed.carried)
    (carried_lacks s said m.message m.flags m.frames placed.place placed.passes)) room)
