-- An own OPEN, tested by what is given to it. Assumes nothing.
use Rattle.std.specs.Prelude.{Result, Ok, Err}
use Rattle.std.specs.Bool.{then_some}
use Rattle.std.specs.Result.{is_err}
use mathlib.Core.Path.{◌≡◌, ap, refl, sym}
use Prim.Native.Nat.{◌+◌, ◌≤◌, ℕ}
use mathlib.Core.List.{List, [], ◌∷◌}
use mathlib.Core.Bool.{Bool, true, false, cond}
use native.Mathlib.Omega.{arith}
use lib.ListN.{length}
use Rattle.bytes_be.specs.Part.{put_at}
use Rattle.bundle.specs.Writing.{head_of}
use Rattle.bundle.proofs.Outputs.{put_two}
use Rattle.control.specs.declared.MessageType.TheVariants.{Open}
use Rattle.control.specs.Frame.{bytes_of}
use Rattle.control.proofs.Round.{length_control}
use Rattle.open.specs.Offer.{Offer}
use Rattle.open_write.specs.declared.BadOffer.{BadOffer}
use Rattle.open_write.specs.Frame.{refused, is_good, frame_for, given_of, given_number, written}
use Rattle.open_write.proofs.Fields.{frame_short}
use Rattle.endpoint.specs.declared.Endpoint.{Endpoint}
use Rattle.sending.specs.declared.Refusal.TheVariants.{BadOffer as Own-refusal}
use Rattle.sending.specs.Calls.{OPEN, Outgoing, misgiven, number_if, bundle_with}
use Rattle.sending.specs.Numbers.{number_in}
use Rattle.sending.specs.Held.{frame_size}
use Rattle.sending.specs.Sending.{sent_by, send_of}
use Rattle.sending.proofs.Decided.{longer, framed_long, refused_any}

-- its own test refuses what is not given
pub own_given : (given : Result ℕ BadOffer) → number_in (then_some (is_err given) Own-refusal) ≡ given_number given
own_given (Ok size) = refl
own_given (Err why) = refl

-- what is tested, by what is given
abbrev pub open_tested : Result ℕ BadOffer → Outgoing
open_tested given =
    record {
      message = Open;
      type_data = 0;
      ask = false;
      own = given_number given;
      length = 18 + frame_size given;
    }

module _ (e : Endpoint) (pipe : Offer) where
  abbrev pub open_given : Result ℕ BadOffer
  open_given = given_of e.flow pipe e.limit

  abbrev pub open_frame : List ℕ
  open_frame = frame_for e.flow pipe e.limit

  -- it is the call that is tested
  pub open_decided : (room : ℕ) → sent_by e (open_tested open_given) room ≡ send_of e (OPEN pipe) room
  unfolding given_of number_if misgiven
  open_decided room = go (is_good pipe) refl
    where
      go : (t : Bool) → is_good pipe ≡ t → sent_by e (open_tested (cond t (Ok (length open_frame)) refused)) room ≡ send_of e (OPEN pipe) room
      go true good =
          simp good
          (ap (λ (size : ℕ). sent_by e (longer (open_tested (Ok (length open_frame))) size) room) (sym (framed_long Open false 0 open_frame)))
      go false bad = simp bad (refused_any e (open_tested refused) room (length (bundle_with Open false 0 (open_frame ∷ []))) refl)

  -- its frame is short
  pub given_short : frame_size open_given ≤ 568
  unfolding given_of
  given_short = go (is_good pipe) refl
    where
      go : (t : Bool) → is_good pipe ≡ t → frame_size (cond t (Ok (length open_frame)) refused) ≤ 568
      go true good = frame_short e.flow pipe e.limit good
      go false bad = omega arith

  module _ (good : is_good pipe ≡ true) where
    pub given_long : frame_size open_given ≡ length open_frame
    unfolding given_of
    given_long = simp good

    -- the two writes of a good one leave its bundle
    pub put_open : (out : List ℕ) → 18 + length open_frame ≤ length out →
        written e.flow pipe e.limit 18 (put_at out 0 (head_of (bytes_of Open 0 0) (length open_frame))) ≡ put_at out 0 (bundle_with Open false 0 (open_frame ∷ []))
    unfolding written bundle_with
    put_open out room = simp good (put_two (bytes_of Open 0 0) (length_control Open 0 0) out open_frame room)
