-- `sending::send_plain` meets its contract: the bundle of a control frame alone is written where the send is accepted.
-- Assumes nothing.
use mathlib.Core.Path.{◌∙◌, ◌≡◌, ap}
use Prim.Native.Nat.{ℕ}
use mathlib.Core.List.{List, [], ◌∷◌}
use lib.ListN.{length}
use Rattle.bytes_be.specs.Part.{put_at}
use Rattle.bundle.specs.Writing.{bundle_of}
use Rattle.bundle.proofs.Outputs.{left_put, one_made}
use Rattle.control.proofs.Round.{length_control}
use Rattle.sending.specs.Calls.{bundle_with, flags_for}
use Rattle.sending.specs.Held.{plain}
use Rattle.sending.specs.Numbers.{number_in}
use Rattle.sending.proofs.Decided.{plain_decided, wrote_bytes}
use Rattle.sending.proofs.send_plain.Goals as goal

pub returns : goal.returns
unfolding bundle_with
returns c =
    let a = c.args in
    let is_decided = c.in_ok-sent.ensures ∙ plain_decided a.e a.message a.ask a.type_data (number_in a.own) (length a.out.now) in
    let frame = c.control_frame.result in
    let eight : length frame ≡ 8 = ap length c.control_frame.ensures ∙ length_control a.message (flags_for a.ask) a.type_data in
    let put = left_put (frame ∷ []) a.out.now (one_made frame eight a.out.now) c.write_one.ensures in
    let said = ap (λ (f : List ℕ). put_at a.out.now 0 (bundle_of (f ∷ []))) c.control_frame.ensures in
    wrote_bytes a.e (plain a.message a.type_data a.ask (number_in a.own)) _ a.out.now _ c.in_ok-sent.sent is_decided (put ∙ said)
