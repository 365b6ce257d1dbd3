-- `sending::send_body` meets its contract: an accepted body is below 2^32 bytes, and so makes a bundle.
-- Assumes nothing.
use borrow.Author.Rules.{rules}
use borrow.Author.Tests.{ltb-false}
use mathlib.Core.Path.{◌∙◌, ◌≡◌, ap, ap₂, sym}
use Prim.Native.Nat.{◌<◌, ℕ, ◌+◌}
use mathlib.Core.List.{List, [], ◌∷◌}
use native.Mathlib.Omega.{arith}
use lib.Dec.{lit<, ltb}
use lib.ListN.{length}
use Rattle.bytes_be.specs.Part.{put_at}
use Rattle.bundle.specs.Writing.{bundle_of}
use Rattle.bundle.proofs.Outputs.{left_put, two_made}
use Rattle.control.specs.declared.MessageType.TheVariants.{Data}
use Rattle.control.proofs.Round.{length_control}
use Rattle.endpoint.specs.declared.Endpoint.{Endpoint}
use Rattle.sending.specs.declared.Report.{Report}
use Rattle.sending.specs.Calls.{Given, datum_with, DATA, above_limit, written, flags_for, number_if, outgoing, bundle_with}
use Rattle.sending.specs.Sending.{Sent, send_of, sent_by}
use Rattle.sending.proofs.Decided.{accepted_passed, framed_long, not_applies, wrote_bytes, wrote_nothing}
use Rattle.sending.proofs.send_body.Goals as goal

-- a send with a body is decided by its own test and by the length of the bundle that it writes
body_decided : (e : Endpoint) (report : Report) (own : ℕ) (body : List ℕ) (room : ℕ)
    → own ≡ number_if (ltb e.limit (8 + length body)) 33
    → sent_by e (record { message = Data; type_data = report.type_data; ask = report.ask; own = own; length = 18 + length body }) room
    ≡ send_of e (DATA (datum_with report (Given body))) room
unfolding above_limit
body_decided e report own body room same =
    ap₂ (λ (number size : ℕ). sent_by e (record { message = Data; type_data = report.type_data; ask = report.ask; own = number; length = size }) room)
    same (sym (framed_long Data report.ask report.type_data body))

pub returns : goal.returns
unfolding bundle_with above_limit
returns c =
    let a = c.args in
    let report = a.report in
    let datum = datum_with report (Given a.body.now) in
    let is_decided = c.in_ok-sent.ensures ∙ body_decided a.e report _ a.body.now (length a.out.now) c.too_large-own.ensures in
    let frame = c.control_frame-frame.result in
    let tests = accepted_passed a.e (outgoing a.e (DATA datum)) (length a.out.now) (ap (λ (s : Sent). s.number) (sym is_decided)) in
    let within = ltb-false a.e.limit (8 + length a.body.now) (not_applies (above_limit a.e datum) 33 (lit< tt) tests.unrefused) in
    let small : length a.body.now < 4294967296 = omega (arith, within) in
    let eight : length frame ≡ 8 = ap length c.control_frame-frame.ensures ∙ length_control Data (flags_for report.ask) report.type_data in
    let put = left_put (frame ∷ a.body.now ∷ []) a.out.now (two_made frame eight a.out.now a.body.now small) c.write_two.ensures in
    let said = ap (λ (f : List ℕ). put_at a.out.now 0 (bundle_of (f ∷ a.body.now ∷ []))) c.control_frame-frame.ensures in
    wrote_bytes a.e (outgoing a.e (DATA datum)) (written a.e (DATA datum)) a.out.now _ c.in_ok-sent.sent is_decided (put ∙ said)

pub returns-in_err-sent : goal.returns-in_err-sent
returns-in_err-sent c =
    let a = c.args in
    let call = DATA (datum_with a.report (Given a.body.now)) in
    let is_decided = c.in_err-sent.ensures ∙ body_decided a.e a.report _ a.body.now (length a.out.now) c.too_large-own.ensures in
    let h = wrote_nothing a.e (outgoing a.e call) (written a.e call) a.out.now _ is_decided in
    search rules
