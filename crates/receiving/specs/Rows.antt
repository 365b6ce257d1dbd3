-- "Receiving": which message an end may hear, and what it then becomes, in the words of document 01. `hear_row` says the same by the row of the
-- sender: what may be heard is what the other end may send.
use Rattle.std.specs.Prelude.{ℕ, ◌-◌, ◌≡◌, true, cond, ◌&&◌, ◌||◌, leb, eqb, Result}
use Rattle.control.specs.declared.MessageType.{MessageType}
use Rattle.control.specs.declared.MessageType.TheVariants.{Open, Ready, Noop, Data, Close}
use Rattle.message.specs.declared.Message.{Message}
use Rattle.endpoint.specs.declared.Endpoint.{Endpoint}
use Rattle.endpoint.specs.Record.{client, server, consumer, fresh, opening, idle, offer, batch, shut, in_ranges}
use Rattle.table.specs.declared.Refusal.{Refusal}
use Rattle.table.specs.declared.Step.{Step}
use Rattle.table.specs.Table.{To, allowed, up_to, begun}
use Rattle.receiving.specs.Hearing.{confirms, hear_row}

-- "OPEN: server in phase 0; becomes 1"; its limit by `limited_by`
unfoldable pub open_heard : Endpoint → Result Step Refusal
open_heard e = allowed (eqb e.role server && eqb e.phase fresh) (To opening 0)

-- "READY(k) at a client: phase 1 or 2; k=0 gives 2, else 3 with n=k."
unfoldable pub ready_at_client : Endpoint → ℕ → Result Step Refusal
ready_at_client e count = allowed (eqb e.phase opening || eqb e.phase idle) (begun offer count)

-- "At a server: phase 3; k at most n; k=0 gives 2, else 4 with n=k."
unfoldable pub ready_at_server : Endpoint → ℕ → Result Step Refusal
ready_at_server e count = allowed (eqb e.phase offer) (up_to (leb count e.n) (begun batch count))

-- "DATA without ACK-REPLY: consumer in phase 4; n less 1, at 0 phase 2."
unfoldable pub data_heard : Endpoint → Result Step Refusal
data_heard e = allowed (eqb e.flow consumer && eqb e.phase batch) (begun batch (e.n - 1))

-- "NOOP, and any message with ACK-REPLY: phase 2, 3 or 4."
unfoldable pub noop_heard : Endpoint → Result Step Refusal
noop_heard e = allowed (leb idle e.phase && leb e.phase batch) (To e.phase e.n)

-- "A CLOSE .. is heard in phases 1 to 4 .. Phase becomes 5; n, W and entries zero.": W and the entries by `at_row` of the table
unfoldable pub close_heard : Endpoint → Result Step Refusal
close_heard e = allowed (leb opening e.phase && leb e.phase batch) (To shut 0)

-- a message of this type and this type-data that is no confirmation
abbrev pub heard_as : Endpoint → MessageType → ℕ → Result Step Refusal
heard_as e Open type-data = open_heard e
heard_as e Ready type-data = cond (eqb e.role client) (ready_at_client e type-data) (ready_at_server e type-data)
heard_as e Noop type-data = noop_heard e
heard_as e Data type-data = data_heard e
heard_as e Close type-data = close_heard e

abbrev pub heard_row : Endpoint → Message → Result Step Refusal
heard_row e m = cond (confirms m.message m.flags) (noop_heard e) (heard_as e m.message m.type_data)

-- on every record in its ranges the two are one
abbrev pub RowsAreMirrored : Type 0
RowsAreMirrored = (e : Endpoint) → in_ranges e ≡ true → (m : Message) → hear_row e m ≡ heard_row e m
