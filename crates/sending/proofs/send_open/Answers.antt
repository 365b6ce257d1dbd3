-- `sending::send_open` meets its contract: an accepted name and format are good, and their frame stands behind the control frame.
-- Assumes nothing.
use borrow.Author.Rules.{rules}
use borrow.Author.Tests.{not-false}
use mathlib.Core.Path.{◌∙◌, ◌≡◌, ap, ap₂, sym}
use Prim.Native.Nat.{◌+◌, ◌≤◌, ℕ}
use mathlib.Core.List.{List}
use mathlib.Core.Bool.{Bool, false, true}
use native.Mathlib.Omega.{arith}
use lib.Dec.{lit<}
use lib.ListN.{length}
use Rattle.std.specs.Prelude.{Option, Result}
use Rattle.std.specs.Bool.{then_some}
use Rattle.std.specs.Result.{is_err}
use Rattle.bytes_be.specs.Part.{put_at}
use Rattle.bundle.specs.Writing.{head_of}
use Rattle.control.specs.declared.MessageType.TheVariants.{Open}
use Rattle.open.specs.Offer.{Offer, offer_in}
use Rattle.open_write.specs.Frame.{given_number, given_of, is_good, written}
use Rattle.open_write.specs.declared.BadOffer.{BadOffer}
use Rattle.endpoint.specs.declared.Endpoint.{Endpoint}
use Rattle.sending.specs.declared.Refusal.{Refusal}
use Rattle.sending.specs.declared.Refusal.TheVariants.{BadOffer as Own-refusal}
use Rattle.sending.specs.Calls.{OPEN, misgiven, bundle_with, outgoing, written as all_bytes}
use Rattle.sending.specs.Held.{frame_size}
use Rattle.sending.specs.Numbers.{number_in}
use Rattle.sending.specs.Sending.{Sent, send_of, sent_by}
use Rattle.sending.proofs.Decided.{accepted_passed, framed_long, not_applies, wrote_bytes, wrote_nothing}
use Rattle.sending.proofs.Opened.{given_long, given_short, open_decided, open_frame, own_given, put_open}
use Rattle.sending.proofs.send_open.Goals as goal

pub overflow_add-o : goal.overflow_add-o
overflow_add-o c =
    let given = c.frame_size-frame.ensures ∙ ap frame_size c.given_of-given.ensures in
    omega (arith, rw (← given) at (given_short c.args.e (offer_in c.args.offer)))

pub overflow_cast-frame : goal.overflow_cast-frame
overflow_cast-frame c =
    let given = c.frame_size-frame.ensures ∙ ap frame_size c.given_of-given.ensures in
    omega (arith, rw (← given) at (given_short c.args.e (offer_in c.args.offer)))

-- it is the call that is tested
decided : (e : Endpoint) (pipe : Offer) (room : ℕ) {given : Result ℕ BadOffer} {size : ℕ} {refuses : Bool} {own : Option Refusal}
    → given ≡ given_of e.flow pipe e.limit → size ≡ frame_size given → refuses ≡ is_err given → own ≡ then_some refuses Own-refusal
    → sent_by e (record { message = Open; type_data = 0; ask = false; own = number_in own; length = 18 + size }) room ≡ send_of e (OPEN pipe) room
decided e pipe room given sized refused own =
    ap₂ (λ (number size : ℕ). sent_by e (record { message = Open; type_data = 0; ask = false; own = number; length = 18 + size }) room)
    (ap number_in (own ∙ ap (λ (t : Bool). then_some t Own-refusal) refused) ∙ own_given _ ∙ ap given_number given) (sized ∙ ap frame_size given)
    ∙ open_decided e pipe room

pub returns-in_err-sent : goal.returns-in_err-sent
returns-in_err-sent c =
    let a = c.args in
    let call = OPEN (offer_in a.offer) in
    let room = length a.out.now in
    let is_decided =
    c.in_err-sent.ensures ∙ decided a.e (offer_in a.offer) room c.given_of-given.ensures c.frame_size-frame.ensures c.is_err.ensures.value c.then_some.ensures in
    let h = wrote_nothing a.e (outgoing a.e call) (all_bytes a.e call) a.out.now _ is_decided in
    search rules

pub returns : goal.returns
unfolding bundle_with misgiven
returns c =
    let given = c.frame_size-frame.ensures ∙ ap frame_size c.given_of-given.ensures in
    let a = c.args in
    let pipe = offer_in a.offer in
    let call = OPEN pipe in
    let room = length a.out.now in
    let is_decided =
    c.in_ok-sent.ensures ∙ decided a.e pipe room c.given_of-given.ensures c.frame_size-frame.ensures c.is_err.ensures.value c.then_some.ensures in
    let tests = accepted_passed a.e (outgoing a.e call) room (ap (λ (s : Sent). s.number) (sym is_decided)) in
    let good : is_good pipe ≡ true = not-false _ (not_applies (misgiven pipe) 34 (lit< tt) tests.unrefused) in
    let fits : 18 + length (open_frame a.e pipe) ≤ room = omega (arith, tests.fits, framed_long Open false 0 (open_frame a.e pipe)) in
    let long : c.frame_size-frame.result ≡ length (open_frame a.e pipe) = given ∙ given_long a.e pipe good in
    let head = c.write_head.ensures ∙ ap₂ (λ (f : List ℕ) (n : ℕ). put_at a.out.now 0 (head_of f n)) c.control_frame.ensures long in
    let put = c.write.ensures ∙ ap (written a.e.flow pipe a.e.limit 18) head ∙ put_open a.e pipe good a.out.now fits in
    wrote_bytes a.e (outgoing a.e call) (all_bytes a.e call) a.out.now _ c.in_ok-sent.sent is_decided put
