-- What is replied is read, and heard by an end that may hear it, as it was replied, and a receive replies nothing else. Assumes nothing.
use mathlib.Core.Path.{◌≡◌, ◌∙◌, refl, subst}
use Prim.Native.Nat.{◌<◌, ◌^◌, ℕ}
use mathlib.Core.List.{List, []}
use mathlib.Core.Bool.{Bool, ◌&&◌, cond, false, true}
use lib.Dec.{eqb, lit<}
use borrow.Author.Tests.{eqb-true}
use Rattle.bytes_be.proofs.Tests.{clash}
use Rattle.bytes_be.proofs.Numbers.{Bytes}
use Rattle.control.specs.declared.MessageType.{MessageType}
use Rattle.control.specs.declared.MessageType.TheVariants.{Open, Ready, Noop, Data, Close}
use Rattle.control.specs.Frame.{ack_reply, ack_request}
use Rattle.open.specs.Offer.{Offer}
use Rattle.message.specs.declared.Message.{Message}
use Rattle.message.specs.Reading.{strange_flags}
use Rattle.message.proofs.Inside.{read_small}
use Rattle.endpoint.specs.declared.Endpoint.{Endpoint}
use Rattle.endpoint.specs.Record.{fresh, server}
use Rattle.receiving.specs.declared.Content.{Content}
use Rattle.receiving.specs.declared.Content.TheVariants.{Nothing as Content-as-Nothing}
use Rattle.receiving.specs.Numbers.{Received}
use Rattle.receiving.specs.Hearing.{accepted, asks, hear_row, reply_to, carried_by, confirmed_by}
use Rattle.receiving.specs.Receiving.{reply_bytes}
use Rattle.receiving.specs.Refusing.{refused, unchanged, close_code, silent, version_code, replying}
use Rattle.machine.specs.Refusals.{said_by}
use Rattle.machine.specs.Round.{RepliesOnly, RepliesReadBack, is_reply, RepliesHeard, message_with}
use Rattle.machine.proofs.Bundled.{plain_read}
use Rattle.machine.proofs.Hearing.{message_heard}
use Rattle.machine.proofs.Stages.{Passed, received_holds}
use Rattle.control.specs.declared.Control.{Control}
use Rattle.std.specs.Prelude.{Option, None, Ok, Some}

-- each of them is read

pub replies_read_back : RepliesReadBack
unfolding strange_flags
replies_read_back Open flags type-data reply few = clash cc
replies_read_back Ready flags type-data reply few = clash cc
replies_read_back Noop flags type-data reply few = rw (eqb-true flags ack_reply reply) (plain_read Noop ack_reply type-data few refl refl)
replies_read_back Data flags type-data reply few = rw (eqb-true flags ack_reply reply) (plain_read Data ack_reply type-data few refl refl)
replies_read_back Close flags type-data reply few = rw (eqb-true flags 0 reply) (plain_read Close 0 type-data few refl refl)

-- and there are no others

abbrev OfReply : Option Control → Type 0
OfReply None = Unit
OfReply (Some frame) = (is_reply frame.message frame.flags ≡ true) × (frame.type_data < 256 ^ 2)

cond_small : (t : Bool) (a b : ℕ) → a < 256 ^ 2 → b < 256 ^ 2 → cond t a b < 256 ^ 2
cond_small true a b first second = first
cond_small false a b first second = second

code_small : (e : Endpoint) (number said : ℕ) → close_code e number said < 256 ^ 2
unfolding close_code version_code
code_small e number said =
    cond_small (eqb number 10) 1 _ (lit< tt)
    (cond_small (eqb number 11) 1 _ (lit< tt)
    (cond_small (eqb number 12) _ _ (cond_small (eqb said 1 && eqb e.role server && eqb e.phase fresh) 101 1 (lit< tt) (lit< tt))
    (cond_small (eqb number 13) 1 _ (lit< tt)
    (cond_small (eqb number 14) 1 _ (lit< tt)
    (cond_small (eqb number 15) 1 _ (lit< tt)
    (cond_small (eqb number 16) 2 _ (lit< tt)
    (cond_small (eqb number 17) 2 _ (lit< tt)
    (cond_small (eqb number 18) 1 _ (lit< tt)
    (cond_small (eqb number 19) 2 _ (lit< tt)
    (cond_small (eqb number 20) 102 _ (lit< tt)
    (cond_small (eqb number 21) 100 _ (lit< tt)
    (cond_small (eqb number 22) 103 _ (lit< tt)
    (cond_small (eqb number 23) 2 _ (lit< tt)
    (cond_small (eqb number 24) 2 0 (lit< tt) (lit< tt)))))))))))))))

module _ (e : Endpoint) where
  stays_replied : (number : ℕ) → OfReply (unchanged e number).reply
  unfolding unchanged
  stays_replied number = tt

  refused_replied : (number said : ℕ) → OfReply (refused e number said).reply
  unfolding refused
  refused_replied number said = go (silent e number said)
    where
      go : (t : Bool) → OfReply (cond t None (replying Close 0 (close_code e number said)))
      go true = tt
      go false = (refl, code_small e number said)

  asks_replied : (m : Message) → m.type_data < 256 ^ 2 → OfReply (reply_to m)
  unfolding reply_to
  asks_replied m few = go m.message m.flags
    where
      chosen : (message : MessageType) (t : Bool) → is_reply message ack_reply ≡ true → OfReply (cond t (replying message ack_reply m.type_data) None)
      chosen message true reply = (reply, few)
      chosen message false reply = tt

      go : (message : MessageType) (flags : ℕ) → OfReply (cond (asks message flags) (replying message ack_reply m.type_data) None)
      go Open flags = tt
      go Ready flags = tt
      go Noop flags = chosen Noop (eqb flags ack_request) refl
      go Data flags = chosen Data (eqb flags ack_request) refl
      go Close flags = tt

  message_replied : (s : List ℕ) → Bytes s → (pipe : Offer) (m : Message) (content : Content) → Passed e s pipe m content → OfReply (accepted e m (hear_row e m) content).reply
  unfolding accepted
  message_replied s bytes pipe m content passed = asks_replied m (read_small s bytes m passed.read)

pub replies_only : RepliesOnly
replies_only e s bytes pipe room message flags type-data reply =
    subst OfReply reply
    (received_holds (λ (x : Received). OfReply x.reply) e s pipe (stays_replied e) (λ number has_code. refused_replied e number (said_by s)) (message_replied e s bytes pipe) room)

-- each is heard by an end that may hear it

-- it carries nothing, and it does not ask
bare : (message : MessageType) (flags type-data : ℕ) → is_reply message flags ≡ true → (r : Endpoint) (pipe : Offer) →
    (carried_by r (reply_bytes (replying message flags type-data)) pipe (message_with message flags type-data []) ≡ Ok Content-as-Nothing) × (asks message flags ≡ false)
unfolding carried_by
bare Open flags type-data reply r pipe = clash cc
bare Ready flags type-data reply r pipe = clash cc
bare Noop flags type-data reply r pipe = (refl, rw (eqb-true flags ack_reply reply) refl)
bare Data flags type-data reply r pipe = (refl, rw (eqb-true flags ack_reply reply) refl)
bare Close flags type-data reply r pipe = (refl, refl)

pub replies_heard : RepliesHeard
unfolding accepted confirmed_by reply_to
replies_heard message flags type-data reply few r pipe phase n may =
    let nothing = bare message flags type-data reply r pipe in
    let read = replies_read_back message flags type-data reply few in
    message_heard r (message_with message flags type-data []) phase n may.leads (reply_bytes (replying message flags type-data)) pipe Content-as-Nothing read may.small nothing.0 may.matched
    ∙ simp nothing.1
