-- The body of a message that passes 15, if it has one, is all that stands behind its control frame. Assumes nothing.
use mathlib.Core.Path.{◌≡◌, ◌∙◌, ap, refl, subst, sym}
use Prim.Native.Nat.{◌+◌, ◌-◌, ◌≤◌, ℕ}
use native.Mathlib.Omega.{arith}
use mathlib.Core.List.{List}
use mathlib.Core.Bool.{Bool, true, false, cond, not, ◌&&◌}
use lib.Dec.{eqb, leb}
use borrow.Author.Tests.{eqb-false, eqb-true, leb-false}
use Rattle.bytes_be.proofs.Tests.{clash}
use Rattle.bytes_be.specs.declared.Place.{Place}
use Rattle.bundle.specs.declared.Contents.{Contents}
use Rattle.std.specs.Prelude.{Option, Some, None, Result, Ok}
use Rattle.bundle.specs.Reading.{contents_of, frame_of}
use Rattle.bundle.proofs.Sums.{contents_told, frame_behind, second_of_two}
use Rattle.control.specs.Frame.{ack_reply}
use Rattle.control.specs.declared.MessageType.{MessageType}
use Rattle.control.specs.declared.MessageType.TheVariants.{Open, Ready, Noop, Data, Close}
use Rattle.message.specs.declared.Message.{Message}
use Rattle.message.specs.declared.Reason.{Reason}
use Rattle.message.specs.declared.Reason.TheVariants.{BadFlags, BadFrames}
use Rattle.message.specs.declared.Refusal.{Refusal}
use Rattle.message.specs.Reading.{bad_flags, bad_frames, body_in, body_of, carries, read_as, reading_of, refused, tested}
use Rattle.message.specs.Held.{body_behind}
use Rattle.message.proofs.Stages.{OfMessage, by_stages}

-- a test has one answer
other : {A : Type 0} → true ≡ false → A
other e = clash cc

-- a count that is not another than 1
one : (frames : ℕ) → not (eqb frames 1) ≡ false → frames ≡ 1
one frames e = go (eqb frames 1) refl e
  where
    go : (t : Bool) → eqb frames 1 ≡ t → not t ≡ false → frames ≡ 1
    go true is e = eqb-true frames 1 is
    go false is e = other e

-- a message whose data frame is looked at has at most one, if it passes 15
at_most_one : (message : MessageType) (flags frames : ℕ) → bad_frames message flags frames ≡ false → carries message flags ≡ true → frames ≤ 1
at_most_one Open flags frames passes some = omega (arith, one frames passes)
at_most_one Data flags frames passes some = go (eqb flags ack_reply) passes some
  where
    go : (t : Bool) → cond t (not (eqb frames 0)) (leb 2 frames) ≡ false → not t ≡ true → frames ≤ 1
    go true passes some = other (sym some)
    go false passes some = omega (arith, leb-false 2 frames passes)
at_most_one Ready flags frames passes some = other (sym some)
at_most_one Noop flags frames passes some = other (sym some)
at_most_one Close flags frames passes some = other (sym some)

module _ (s : List ℕ) (contents : Contents) (counted : contents_of s ≡ Ok contents) where
  -- all that stands behind the control frame
  abbrev behind : Place
  behind = record { at = contents.control.at + contents.control.length; length = contents.size - contents.control.length }

  second_frame : (t : Bool) → eqb (contents.count - 1) 0 ≡ t → contents.count - 1 ≤ 1 → body_in (frame_of s 1) ≡ cond (not t) (Some behind) None
  second_frame true none few =
      let whole = (contents_told s contents counted).whole in
      ap body_in (frame_behind s whole.is-good 1 (omega (arith, whole.counts, eqb-true (contents.count - 1) 0 none)))
  second_frame false some few =
      let two : contents.count ≡ 2 = omega (arith, few, eqb-false (contents.count - 1) 0 some) in
      ap body_in (second_of_two s contents counted two)

  body-behind : (message : MessageType) (flags : ℕ) → bad_frames message flags (contents.count - 1) ≡ false →
      body_of s message flags ≡ body_behind message flags (contents.count - 1) behind
  unfolding body_of
  body-behind message flags passes = go (carries message flags) refl
    where
      go : (t : Bool) → carries message flags ≡ t → cond t (body_in (frame_of s 1)) None ≡ cond (t && not (eqb (contents.count - 1) 0)) (Some behind) None
      go true some = second_frame (eqb (contents.count - 1) 0) refl (at_most_one message flags (contents.count - 1) passes some)
      go false none = refl

  -- what is read of a message whose type is known, where its body is what stands behind its control frame
  pub read_behind : (said : ℕ) (message : MessageType) (flags type-data : ℕ) (body : Option Place) → body ≡ body_behind message flags (contents.count - 1) behind →
      read_as s said message flags type-data (contents.count - 1) contents.size ≡
      tested said (record { message = message; flags = flags; type_data = type-data; frames = contents.count - 1; size = contents.size; body = body })
  unfolding read_as
  read_behind said message flags type-data body is =
      ap (cond (bad_flags message flags) (refused BadFlags said)) (go (bad_frames message flags (contents.count - 1)) refl)
    where
      read_with : Option Place → Result Message (Refusal Reason)
      read_with body = Ok (record { message = message; flags = flags; type_data = type-data; frames = contents.count - 1; size = contents.size; body = body })

      go : (t : Bool) → bad_frames message flags (contents.count - 1) ≡ t →
          cond t (refused BadFrames said) (read_with (body_of s message flags)) ≡ cond t (refused BadFrames said) (read_with body)
      go true bad = refl
      go false passes = ap read_with (body-behind message flags passes ∙ sym is)

-- the body of a message: at a place where it has one
pub record Placed (m : Message) : Type 0 where
  pub place : Place
  pub there : m.body ≡ body_behind m.message m.flags m.frames place
  pub passes : bad_frames m.message m.flags m.frames ≡ false

-- of every message that is read
pub read_placed : (s : List ℕ) (m : Message) → reading_of s ≡ Ok m → Placed m
read_placed s m is =
    subst (OfMessage Placed) is
    (by_stages Placed s
    (λ contents signed message counted is_signed framed.
    record {
      place = behind s contents counted;
      there = body-behind s contents counted message signed.flags framed;
      passes = framed;
    }))
