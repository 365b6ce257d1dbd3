-- What each entry on a state block answers and leaves: making, the five sends and receive, each with an equation for the number, for every
-- output of numbers, for the block and for the output. A call or a message is answered by the record in the block: 1 where it is not good.
use Rattle.std.specs.Prelude.{ℕ, ◌≡◌, Result, Ok, Err, List, Bool, true, false, cond, length, replicate, eqb, Option}
use Rattle.bytes_be.specs.Part.{put_at}
use Rattle.open.specs.Offer.{Offer}
use Rattle.endpoint.specs.declared.BadMaking.{BadMaking}
use Rattle.endpoint.specs.declared.Endpoint.{Endpoint}
use Rattle.endpoint.specs.Record.{given_number, made_of}
use Rattle.endpoint.specs.Block.{bytes_of, is_good, load_of}
use Rattle.receiving.specs.Numbers.{Answer, Heard, Stays, Closes, Received}
use Rattle.receiving.specs.Receiving.{answer_number, reply_bytes, replied, received_of}
use Rattle.sending.specs.declared.Report.{Report}
use Rattle.sending.specs.Calls.{Body, Missing, Given, Datum, datum_with, Call, DATA, written}
use Rattle.sending.specs.Options.{asking, without_body, is_chosen, how_of}
use Rattle.sending.specs.Sending.{Sent, send_of, left_by}
use Rattle.fbdp.specs.Slots.{answer_slots, in_order}
use Rattle.control.specs.declared.Control.{Control}

-- the block with the 64 bytes of a record
unfoldable pub stored : Endpoint → List ℕ → List ℕ
stored e block = put_at block 0 (bytes_of e)

-- "Making tests 1 (length only), 34."
unfoldable pub make_number : Result Endpoint BadMaking → List ℕ → ℕ
make_number made block = cond (eqb (length block) 64) (given_number made) 1

-- "All others change no byte.": what was made is stored in a block of 64 bytes, and else the block is as it was
abbrev pub made_in : Result Endpoint BadMaking → List ℕ → List ℕ
made_in (Ok made) block = cond (eqb (length block) 64) (stored made block) block
made_in (Err why) block = block

pub record Kept (made : Result Endpoint BadMaking) (before : List ℕ) (number : ℕ) (after : List ℕ) : Type 0 where
  pub numbered : number ≡ make_number made before
  pub kept : after ≡ made_in made before

-- `fbdp_make_client` and `fbdp_make_server`, of the fresh endpoint that they make
abbrev pub MakeAnswer : Endpoint → List ℕ → ℕ → List ℕ → Type 0
MakeAnswer fresh before number after = Kept (made_of fresh) before number after

-- what comes of a call on a block
abbrev pub sent_on : List ℕ → Call → ℕ → Sent
sent_on block call room = send_of (load_of block) call room

-- "All others change no byte.": the block after a send
unfoldable pub kept_after : Sent → List ℕ → List ℕ
kept_after sent block = cond (eqb sent.number 0) (stored sent.next block) block

-- what a send answers, and the block afterwards
pub record Finished (sent : Sent) (before : List ℕ) (number count : ℕ) (after : List ℕ) : Type 0 where
  pub numbered : number ≡ sent.number
  pub counted : count ≡ sent.written
  pub kept : after ≡ kept_after sent before

-- what a send of DATA is told
abbrev pub report_of : ℕ → ℕ → Report
report_of type-data how = record { type_data = type-data; ask = is_chosen asking how }

-- of the bytes that are lent for a body, which are not looked at where there is to be none
abbrev pub body_of : ℕ → List ℕ → Body
body_of how lent = cond (is_chosen without_body how) Missing (Given lent)

abbrev pub datum_of : ℕ → ℕ → List ℕ → Datum
datum_of type-data how lent = datum_with (report_of type-data how) (body_of how lent)

-- the bytes that may be lent for a body: these, and any where it is missing
abbrev pub LentFor : Body → List ℕ → Type 0
LentFor Missing lent = Unit
LentFor (Given bytes) lent = lent ≡ bytes

-- a host that gives type-data and options of a datum, and lends its body, sends that datum
abbrev pub GivesEveryDatum : Type 0
GivesEveryDatum =
    (datum : Datum) (lent : List ℕ) → LentFor datum.body lent
    → datum_of datum.type-data (how_of (DATA datum)) lent ≡ datum

-- `fbdp_send_open`, `fbdp_send_ready`, `fbdp_send_data`, `fbdp_send_noop` and `fbdp_send_close`
pub record SendOnBlock (call : Call) (block out : List ℕ) (number count : ℕ) (block' out' : List ℕ) : Type 0 where
  pub finished : Finished (sent_on block call (length out)) block number count block'
  pub left : out' ≡ left_by (sent_on block call (length out)) (written (load_of block) call) out

-- 1, "block not 64 bytes, or not good": a send on such a block changes no byte
abbrev pub BadBlockSends : Type 0
BadBlockSends =
    (call : Call) (block out : List ℕ) (number count : ℕ) (block' out' : List ℕ) → is_good block ≡ false → SendOnBlock call block out number count block' out'
    → (number ≡ 1) × (count ≡ 0) × (block' ≡ block) × (out' ≡ out)

-- what comes of a message on a block
abbrev pub received_on : List ℕ → List ℕ → Offer → ℕ → Received
received_on block s pipe room = received_of (load_of block) s pipe room

-- how many bytes of the output are the reply
abbrev pub reply_length : Option Control → ℕ
reply_length reply = length (reply_bytes reply)

-- "All others change no byte.": whether an answer does
abbrev pub stays : Answer → Bool
stays (Heard heard) = false
stays (Stays number) = true
stays (Closes number) = false

-- the block after a receive
unfoldable pub kept_by : Received → List ℕ → List ℕ
kept_by received block = cond (stays received.answer) block (stored received.next block)

-- `fbdp_receive`
pub record ReceiveOnBlock (s : List ℕ) (pipe : Offer) (block out : List ℕ) (number : ℕ) (slots block' out' : List ℕ) : Type 0 where
  pub numbered : number ≡ answer_number (received_on block s pipe (length out)).answer
  pub told :
      slots
      ≡ in_order (answer_slots (received_on block s pipe (length out)).answer (reply_length (received_on block s pipe (length out)).reply))
  pub kept : block' ≡ kept_by (received_on block s pipe (length out)) block
  pub left : out' ≡ replied (received_on block s pipe (length out)).reply out

-- and a receive on such a block changes none either, and tells nothing
abbrev pub BadBlockReceives : Type 0
BadBlockReceives =
    (s : List ℕ) (pipe : Offer) (block out : List ℕ) (number : ℕ) (slots block' out' : List ℕ) → is_good block ≡ false → ReceiveOnBlock s pipe block out number slots block' out'
    → (number ≡ 1) × (slots ≡ replicate 16 0) × (block' ≡ block) × (out' ≡ out)
