-- "Slips we have seen", and nine more: each is a program that is the tables but for that slip, and demand 3 fails of it.
-- Two slips of document 01 demand 3 does not see: "Replying to a CLOSE that passes 10..13.", as the reply reaches an end that has itself closed and
-- passes it over, and "Matching a confirmation to any entry and not the oldest.", as in a session the oldest is the one that comes. The contract of
-- `fbdp_receive` sees both (`fbdp/specs/Blocks: ReceiveOnBlock`).
use Rattle.std.specs.Prelude.{ℕ, ◌+◌, List, [], reverse, Bool, cond, not, ◌&&◌, eqb, leb, pos, Float, Err}
use Rattle.std.specs.Float.{binary64}
use Rattle.std.specs.Float.Ieee.{div, lt, mul, of_bits, of_int}
use Rattle.bytes_be.specs.Part.{part, put_at}
use Rattle.bundle.specs.Reading.{start_of}
use Rattle.control.specs.declared.MessageType.TheVariants.{Close, Data, Ready}
use Rattle.control.specs.Frame.{ack_reply, type_of}
use Rattle.open.specs.Offer.{Offer}
use Rattle.endpoint.specs.declared.Endpoint.{Endpoint}
use Rattle.endpoint.specs.Record.{batch, producer, at_phase, closed}
use Rattle.table.specs.declared.Refusal.TheVariants.{AboveOffer}
use Rattle.table.specs.Table.{data_row, hear_number, moved, send_number}
use Rattle.receiving.specs.Refusing.{refused}
use Rattle.sending.specs.Calls.{Body, Missing, Given, is_missing, body_size, Call, OPEN, READY, DATA, NOOP, CLOSE}
use Rattle.machine.specs.Programs.{Queued, nothing_told, Told, SendOutcome, ReceiveOutcome, ignored, outcome_of, Program, tables}
use Rattle.session.specs.Demand.{DemandOf, as_records}

-- demand 3 does not hold of a program
abbrev pub Fails : Program Endpoint ℕ → Type 0
Fails p = DemandOf p as_records → ⊥

-- ---- how a program departs from the tables

-- it sends and receives so
abbrev pub slipping :
    (Endpoint → Call → ℕ → SendOutcome Endpoint) → (Endpoint → Queued → Offer → ℕ → ReceiveOutcome Endpoint) → Program Endpoint ℕ
slipping send receive = record { room = tables.room; make = tables.make; send = send; receive = receive }

-- it makes this of what the tables give an endpoint
abbrev pub changing :
    (Endpoint → SendOutcome Endpoint → SendOutcome Endpoint) → (Endpoint → ReceiveOutcome Endpoint → ReceiveOutcome Endpoint) → Program Endpoint ℕ
changing sent received =
    slipping (λ e call out. sent e (tables.send e call out)) (λ e m pipe out. received e (tables.receive e m pipe out))

-- the same
abbrev pub as_given : {A : Type 0} → Endpoint → A → A
as_given e done = done

-- the same, but for the endpoint afterwards

abbrev pub sent_leaving : (Endpoint → Endpoint) → SendOutcome Endpoint → SendOutcome Endpoint
sent_leaving change done = record { number = done.number; bytes = done.bytes; next = change done.next }

abbrev pub received_leaving : (Endpoint → Endpoint) → ReceiveOutcome Endpoint → ReceiveOutcome Endpoint
received_leaving change done = record { number = done.number; told = done.told; replied = done.replied; next = change done.next }

-- where a test holds, in phase 4, "n less 1; at 0, phase 2"
abbrev pub lowered_if : Bool → Endpoint → Endpoint
lowered_if test e = cond test (moved e (data_row producer e.phase e.n)) e

-- "DATA without ACK-REPLY" is told
abbrev pub tells_data : Told → Bool
tells_data told = eqb told.message (type_of Data) && not (eqb told.flags ack_reply)

-- ---- slips of document 01

-- "Counting an ACK-REPLY of a DATA as data."
abbrev pub counting_confirmations : Program Endpoint ℕ
counting_confirmations =
    changing as_given (λ e done. received_leaving (lowered_if (eqb done.told.message (type_of Data) && eqb done.told.flags ack_reply)) done)

abbrev pub CountingConfirmationsFails : Type 0
CountingConfirmationsFails = Fails counting_confirmations

-- "Lowering n on a send that 33 then refuses."
abbrev pub refusal_lowered : Endpoint → SendOutcome Endpoint → SendOutcome Endpoint
refusal_lowered e done = sent_leaving (lowered_if (eqb done.number 33)) done

abbrev pub lowering_on_refusal : Program Endpoint ℕ
lowering_on_refusal = changing refusal_lowered as_given

abbrev pub LoweringOnRefusalFails : Type 0
LoweringOnRefusalFails = Fails lowering_on_refusal

-- "Comparing the limit as a double with a size in megabytes.": the limit is kept as so many times the double 0.000001, a size is divided by a million,
-- and a DATA is refused as 16 where its size, of control frame and body, is above that
abbrev pub millionth : Float
millionth = of_bits binary64 4517329193108106637

abbrev pub kept_megabytes : ℕ → Float
kept_megabytes limit = mul binary64 (of_int binary64 (pos limit)) millionth

abbrev pub megabytes : ℕ → Float
megabytes size = div binary64 (of_int binary64 (pos size)) (of_int binary64 (pos 1000000))

abbrev pub measured : Endpoint → ReceiveOutcome Endpoint → ReceiveOutcome Endpoint
measured e done =
    cond (tells_data done.told && lt (kept_megabytes e.limit) (megabytes (8 + body_size done.told.body)))
    (outcome_of [] (refused e 16 (type_of Data)))
    done

abbrev pub comparing_megabytes : Program Endpoint ℕ
comparing_megabytes = changing as_given measured

abbrev pub ComparingMegabytesFails : Type 0
ComparingMegabytesFails = Fails comparing_megabytes

-- "Reading type-data low byte first.": the two bytes stand behind six others of the control frame
abbrev pub type_data_swapped : List ℕ → List ℕ
type_data_swapped s = let at = start_of s 0 + 6 in put_at s at (reverse (part s at 2))

abbrev pub reading_low_byte_first : Program Endpoint ℕ
reading_low_byte_first =
    slipping tables.send (λ e m pipe out.
    tables.receive e (record { bytes = type_data_swapped m.bytes; how = m.how }) pipe out)

abbrev pub ReadingLowByteFirstFails : Type 0
ReadingLowByteFirstFails = Fails reading_low_byte_first

-- ---- nine more

-- the same, but for what is told of a DATA
abbrev pub telling_of_data : (Told → Told) → Program Endpoint ℕ
telling_of_data change =
    changing as_given (λ e done.
    record { number = done.number; told = cond (tells_data done.told) (change done.told) done.told; replied = done.replied; next = done.next })

-- a DATA is heard, and nothing is told of it
abbrev pub losing_data : Program Endpoint ℕ
losing_data = telling_of_data (λ told. nothing_told)

abbrev pub LosingDataFails : Type 0
LosingDataFails = Fails losing_data

-- C-12: "Demand 3 counts a missing and an empty body as different." A missing one is heard as empty
abbrev pub filled : Body → Body
filled Missing = Given []
filled (Given bytes) = Given bytes

abbrev pub hearing_missing_as_empty : Program Endpoint ℕ
hearing_missing_as_empty =
    telling_of_data (λ told. record { message = told.message; flags = told.flags; type-data = told.type-data; body = filled told.body })

abbrev pub HearingMissingAsEmptyFails : Type 0
HearingMissingAsEmptyFails = Fails hearing_missing_as_empty

-- and an empty one is sent as missing
abbrev pub omitting_empty : Call → Call
omitting_empty (OPEN asked) = OPEN asked
omitting_empty (READY count) = READY count
omitting_empty (DATA datum) =
    DATA (record { type-data = datum.type-data; ask = datum.ask; body = cond (eqb (body_size datum.body) 0) Missing datum.body })
omitting_empty (NOOP type-data ask) = NOOP type-data ask
omitting_empty (CLOSE code) = CLOSE code

abbrev pub sending_empty_as_missing : Program Endpoint ℕ
sending_empty_as_missing = slipping (λ e call out. tables.send e (omitting_empty call) out) tables.receive

abbrev pub SendingEmptyAsMissingFails : Type 0
SendingEmptyAsMissingFails = Fails sending_empty_as_missing

-- "k at most n" is asked at neither end: a READY above the offer is sent and heard as one within the greatest offer there is
abbrev pub raised_if : Bool → Endpoint → Endpoint
raised_if test e = cond test (at_phase e e.phase 65535) e

abbrev pub agreeing_above_offer : Program Endpoint ℕ
agreeing_above_offer =
    slipping (λ e call out. tables.send (raised_if (eqb (tables.send e call out).number (send_number (Err AboveOffer))) e) call out)
    (λ e m pipe out.
    tables.receive (raised_if (eqb (tables.receive e m pipe out).number (hear_number (Err AboveOffer))) e) m pipe out)

abbrev pub AgreeingAboveOfferFails : Type 0
AgreeingAboveOfferFails = Fails agreeing_above_offer

-- "A batch once ran past its count": no DATA lowers n at either end, and only a close leads out of phase 4
abbrev pub staying : Endpoint → Endpoint → Endpoint
staying e next = cond (eqb e.phase batch && leb next.phase batch) (at_phase next e.phase e.n) next

abbrev pub running_past_count : Program Endpoint ℕ
running_past_count = changing (λ e done. sent_leaving (staying e) done) (λ e done. received_leaving (staying e) done)

abbrev pub RunningPastCountFails : Type 0
RunningPastCountFails = Fails running_past_count

-- C-12: a DATA without a body lowers n twice at the end that hears it, or not at all
abbrev pub tells_missing : Told → Bool
tells_missing told = tells_data told && is_missing told.body

abbrev pub lowering_twice : Program Endpoint ℕ
lowering_twice = changing as_given (λ e done. received_leaving (lowered_if (tells_missing done.told)) done)

abbrev pub LoweringTwiceFails : Type 0
LoweringTwiceFails = Fails lowering_twice

abbrev pub never_lowering : Program Endpoint ℕ
never_lowering = changing as_given (λ e done. received_leaving (λ next. cond (tells_missing done.told) (staying e next) next) done)

abbrev pub NeverLoweringFails : Type 0
NeverLoweringFails = Fails never_lowering

-- a CLOSE is heard, and nothing comes of it
abbrev pub passing_over_close : Program Endpoint ℕ
passing_over_close = changing as_given (λ e done. cond (eqb done.told.message (type_of Close)) (ignored 0 e) done)

abbrev pub PassingOverCloseFails : Type 0
PassingOverCloseFails = Fails passing_over_close

-- a READY is heard as a CLOSE
abbrev pub as_close : Endpoint → ReceiveOutcome Endpoint → ReceiveOutcome Endpoint
as_close e done =
    record {
      number = done.number;
      told = record { message = type_of Close; flags = 0; type-data = 0; body = Missing };
      replied = [];
      next = closed e;
    }

abbrev pub hearing_ready_as_close : Program Endpoint ℕ
hearing_ready_as_close = changing as_given (λ e done. cond (eqb done.told.message (type_of Ready)) (as_close e done) done)

abbrev pub HearingReadyAsCloseFails : Type 0
HearingReadyAsCloseFails = Fails hearing_ready_as_close
