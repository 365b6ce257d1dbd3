-- Every send and every receive leaves a good endpoint good. Assumes nothing.
use mathlib.Core.Path.{◌≡◌, refl, subst}
use Prim.Native.Nat.{ℕ}
use mathlib.Core.List.{List}
use mathlib.Core.Bool.{Bool, cond, false, true}
use lib.Dec.{eqb}
use borrow.Author.Tests.{eq-eqb, eqb-true}
use Rattle.std.specs.Prelude.{Result}
use Rattle.bytes_be.proofs.Numbers.{Bytes}
use Rattle.control.specs.declared.MessageType.TheVariants.{Open, Ready, Close}
use Rattle.terms.specs.Announced.{announced_limit}
use Rattle.open.specs.Offer.{Offer}
use Rattle.message.specs.declared.Message.{Message}
use Rattle.message.proofs.Inside.{read_small}
use Rattle.endpoint.specs.declared.Endpoint.{Endpoint}
use Rattle.endpoint.specs.declared.Entry.{Entry}
use Rattle.endpoint.specs.Record.{asked, awaitable, producer, confirmed}
use Rattle.endpoint.proofs.StaysGood.{asked_good, asked_sized, confirmed_good, confirmed_sized, limited_good, limited_sized}
use Rattle.table.specs.declared.Refusal.{Refusal}
use Rattle.table.specs.declared.Step.{Step}
use Rattle.table.specs.Table.{moved, not_allowed, other}
use Rattle.receiving.specs.declared.Content.{Content}
use Rattle.receiving.specs.declared.Content.TheVariants.{Nothing, Opening, Body as Content-as-Body}
use Rattle.receiving.specs.Numbers.{Received}
use Rattle.receiving.specs.Hearing.{accepted, confirmed_by, confirms, hear_row, limited_by, moves_as}
use Rattle.receiving.specs.Refusing.{refused, unchanged}
use Rattle.sending.specs.Calls.{Call, OPEN, READY, DATA, NOOP, CLOSE, outgoing}
use Rattle.sending.specs.Sending.{Sent, asked_by, number_for, send_row, sent_by}
use Rattle.sending.proofs.Decided.{all_passed}
use Rattle.machine.specs.Good.{Fits, SentGood, Sound, HeardGood}
use Rattle.machine.specs.Refusals.{said_by}
use Rattle.machine.proofs.Carried.{CarriedBounded, carried_bounded}
use Rattle.machine.proofs.Rows.{Acts, row_sound, sent_data_acts, sent_noop_acts, closed_sound}
use Rattle.machine.proofs.Stages.{Passed, received_holds}
use Rattle.std.specs.Prelude.{Ok}

module _ (e : Endpoint) (sound : Sound e) where
  -- an ask, or none
  ask_sound : (ask : Bool) (after : Endpoint) → Acts e after → (entry : Entry) → awaitable e.flow entry ≡ true → Sound (cond ask (asked after entry) after)
  ask_sound true after acts entry awaits =
      let good = acts.sound in
      let may : awaitable after.flow entry ≡ true = rw acts.same awaits in
      record {
        sized = asked_sized after good.sized entry may;
        is-good = asked_good after good.sized.full good.is-good entry acts.early acts.late may;
      }
  ask_sound false after acts entry awaits = acts.sound

  accepted_sound : (call : Call) → Fits call → not_allowed (send_row e (outgoing e call)) ≡ false → Sound (asked_by (moved e (send_row e (outgoing e call))) (outgoing e call))
  unfolding send_row asked_by awaitable
  accepted_sound (OPEN asked) fits passes = row_sound e sound e.role e.flow Open 0 fits
  accepted_sound (READY count) fits passes = row_sound e sound e.role e.flow Ready count fits
  accepted_sound (DATA datum) fits passes =
      let acts = sent_data_acts e sound e.flow passes in
      ask_sound datum.ask _ acts.1 (record { message = 4; type_data = datum.type-data }) (eq-eqb e.flow producer acts.0)
  accepted_sound (NOOP type-data ask) fits passes =
      ask_sound ask _ (sent_noop_acts e sound passes) (record { message = 3; type_data = type-data }) refl
  accepted_sound (CLOSE code) fits passes = row_sound e sound e.role e.flow Close code fits

  sent_sound : (call : Call) → Fits call → (room : ℕ) → Sound (sent_by e (outgoing e call) room).next
  unfolding sent_by
  sent_sound call fits room = go (eqb (number_for e (outgoing e call) row room) 0) refl
    where
      row : Result Step Refusal
      row = send_row e (outgoing e call)

      go : (t : Bool) → eqb (number_for e (outgoing e call) row room) 0 ≡ t →
          Sound (cond {A = Sent} t (record { number = 0; next = asked_by (moved e row) (outgoing e call); written = (outgoing e call).length }) (record { number = number_for e (outgoing e call) row room; next = e; written = 0 })).next
      go true zero_number = accepted_sound call fits (all_passed e (outgoing e call) row room (eqb-true _ _ zero_number)).allowed
      go false number = sound

pub sent_good : SentGood
sent_good = sent_sound

module _ (e : Endpoint) (sound : Sound e) where
  -- a confirmation, or none
  confirmed_sound : (t : Bool) (after : Endpoint) → Sound after → Sound (cond t (confirmed after) after)
  confirmed_sound true after good =
      record { sized = confirmed_sized after good.sized; is-good = confirmed_good after good.sized.full good.is-good }
  confirmed_sound false after good = good

  -- a limit, or none
  limited_sound : (content : Content) (after : Endpoint) → CarriedBounded (Ok content) → Sound after → Sound (limited_by after content)
  limited_sound Nothing after bounded good = good
  limited_sound (Opening opening) after bounded good =
      let limit : ℕ = announced_limit opening.announced in
      record { sized = limited_sized after good.sized limit; is-good = limited_good after good.is-good limit bounded }
  limited_sound (Content-as-Body place) after bounded good = good

  stays_sound : (number : ℕ) → Sound (unchanged e number).next
  unfolding unchanged
  stays_sound number = sound

  refused_sound : (number said : ℕ) → Sound (refused e number said).next
  unfolding refused
  refused_sound number said = closed_sound e sound

  message_sound : (s : List ℕ) → Bytes s → (pipe : Offer) (m : Message) (content : Content) → Passed e s pipe m content → Sound (accepted e m (hear_row e m) content).next
  unfolding accepted confirmed_by hear_row
  message_sound s bytes pipe m content passed =
      limited_sound content _ (subst CarriedBounded passed.carried (carried_bounded e s pipe m))
      (confirmed_sound (confirms m.message m.flags) (moved e (hear_row e m))
      (row_sound e sound (other e.role) (other e.flow) (moves_as m.message m.flags) m.type_data (read_small s bytes m passed.read)))

pub heard_good : HeardGood
heard_good e sound s bytes pipe room =
    received_holds (λ (x : Received). Sound x.next) e s pipe (stays_sound e sound) (λ number closes. refused_sound e sound number (said_by s)) (message_sound e sound s bytes pipe) room
