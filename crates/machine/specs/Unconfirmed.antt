-- C-14: "Keep the number .. true after every send, receive and close." What each call makes of the count of unconfirmed reports.
use Rattle.std.specs.Prelude.{ℕ, ◌+◌, ◌≡◌, List, cond, eqb}
use Rattle.control.specs.declared.MessageType.{MessageType}
use Rattle.control.specs.declared.MessageType.TheVariants.{Open, Ready, Noop, Data, Close}
use Rattle.control.specs.Frame.{ack_reply}
use Rattle.open.specs.Offer.{Offer}
use Rattle.endpoint.specs.declared.Endpoint.{Endpoint}
use Rattle.receiving.specs.Numbers.{Answer, Heard, Stays, Closes}
use Rattle.receiving.specs.Receiving.{received_of}
use Rattle.sending.specs.Calls.{Call, OPEN, READY, DATA, NOOP, CLOSE}
use Rattle.sending.specs.Sending.{send_of}
use Rattle.machine.specs.Good.{Sound}
use Rattle.machine.specs.Programs.{Making, tables}

-- what becomes of a count
pub data Change : Type 0 where
  Same OneMore OneLess Cleared : Change

abbrev pub Leaves : Change → ℕ → ℕ → Type 0
Leaves Same before after = after ≡ before
Leaves OneMore before after = after ≡ before + 1
Leaves OneLess before after = before ≡ after + 1
Leaves Cleared before after = after ≡ 0

-- what a call makes of it where its number is 0; any other leaves it as it is
abbrev pub if_accepted : ℕ → Change → Change
if_accepted number change = cond (eqb number 0) change Same

-- a send
abbrev pub send_change : Call → Change
send_change (OPEN asked) = Same
send_change (READY count) = Same
send_change (DATA datum) = cond datum.ask OneMore Same
send_change (NOOP type-data ask) = Same
send_change (CLOSE code) = Cleared

-- a message that is heard, by its type and flags
abbrev pub message_change : MessageType → ℕ → Change
message_change Open flags = Same
message_change Ready flags = Same
message_change Noop flags = Same
message_change Data flags = cond (eqb flags ack_reply) OneLess Same
message_change Close flags = Cleared

-- a receive: 1, 2 and 3 leave it, and 10 to 24 close
abbrev pub answer_change : Answer → Change
answer_change (Heard heard) = message_change heard.message heard.flags
answer_change (Stays number) = Same
answer_change (Closes number) = Cleared

-- of every endpoint by a making, and of every good one by a send or a receive, whatever is answered

abbrev pub MakingLeaves : Type 0
MakingLeaves =
    (e : Endpoint) (making : Making)
    → Leaves (if_accepted (tables.make e making).number Cleared) e.unconfirmed (tables.make e making).next.unconfirmed

abbrev pub SendLeaves : Type 0
SendLeaves =
    (e : Endpoint) → Sound e → (call : Call) (room : ℕ)
    → Leaves (if_accepted (send_of e call room).number (send_change call)) e.unconfirmed (send_of e call room).next.unconfirmed

abbrev pub ReceiveLeaves : Type 0
ReceiveLeaves =
    (e : Endpoint) → Sound e → (s : List ℕ) (pipe : Offer) (room : ℕ)
    → Leaves (answer_change (received_of e s pipe room).answer) e.unconfirmed (received_of e s pipe room).next.unconfirmed
