-- "Take one fresh client and one fresh server, each made once and then touched only by the sends and receives, with enough buffer room, joined by two
-- queues that keep order and neither lose nor repeat. Every message or reply written joins its queue, and only the head of a queue is received."
-- Each end is a run of its own (`machine/specs/Runs`), over any program; here are the queues between two, and what each end did and heard.
use Rattle.std.specs.Prelude.{ℕ, ◌≡◌, List, [], ◌∷◌, ◌++◌, cond, not, ◌&&◌, ◌||◌, eqb, length}
use Rattle.bytes_be.specs.Part.{same}
use Rattle.control.specs.declared.MessageType.{MessageType}
use Rattle.control.specs.declared.MessageType.TheVariants.{Open, Ready, Noop, Data, Close}
use Rattle.control.specs.Frame.{ack_request, ack_reply, type_of}
use Rattle.open.specs.Offer.{Offer}
use Rattle.endpoint.specs.Record.{read_off}
use Rattle.receiving.specs.Receiving.{reply_bytes}
use Rattle.sending.specs.Calls.{Datum, Call, OPEN, READY, DATA, NOOP, CLOSE, message_of, type_data_of}
use Rattle.machine.specs.Good.{Fits}
use Rattle.machine.specs.Programs.{Making, AsClient, AsServer, Queued, Told, Program}
use Rattle.machine.specs.Runs.{Act, Makes, Sends, Receives, Done, is_kept, done_by, left_in, wrote_in, taken_in}
use Rattle.receiving.specs.Refusing.{replying}

pub data End : Type 0 where
  Client Server : End

abbrev pub across : End → End
across Client = Server
across Server = Client

-- what two ends are made with: the client's flow and limit, and the server's flow
pub record Makings : Type 0 where
  pub flow : ℕ
  pub limit : ℕ
  pub server_flow : ℕ

abbrev pub making_of : Makings → End → Making
making_of makings Client = AsClient makings.flow makings.limit
making_of makings Server = AsServer makings.server_flow

-- ---- what an end did and heard

-- whether an end has closed: by a CLOSE that it heard, or by any that it wrote
pub data Ending : Type 0 where
  Going HeardClose WroteClose : Ending

-- oldest first
pub record History : Type 0 where
  -- the data sent and the data accepted
  pub sent : List Datum
  pub accepted : List Datum
  -- the counts of the READYs sent and of those heard
  pub readies : List ℕ
  pub readies_heard : List ℕ
  -- the DATA whose confirmation was sent and those whose confirmation was heard, each by its type-data
  pub confirmations : List ℕ
  pub confirmations_heard : List ℕ
  -- the data accepted since this end sent or heard the client's last READY
  pub recent : List Datum
  pub ending : Ending

abbrev pub no_history : History
no_history =
    record {
      sent = [];
      accepted = [];
      readies = [];
      readies_heard = [];
      confirmations = [];
      confirmations_heard = [];
      recent = [];
      ending = Going;
    }

-- the data that a call sends
abbrev pub data_sent : Call → List Datum
data_sent (OPEN asked) = []
data_sent (READY count) = []
data_sent (DATA datum) = datum ∷ []
data_sent (NOOP type-data ask) = []
data_sent (CLOSE code) = []

-- the data of what is told: "DATA without ACK-REPLY"
abbrev pub data_told : Told → List Datum
data_told told =
    cond (eqb told.message (type_of Data) && not (eqb told.flags ack_reply))
    (record { type-data = told.type-data; ask = eqb told.flags ack_request; body = told.body } ∷ [])
    []

-- the type-data of the data that ask for a confirmation
abbrev pub asked_for : List Datum → List ℕ
asked_for data-sent = read_off (λ datum. datum.ask) (λ datum. datum.type-data) data-sent

-- the DATA whose confirmation is told: "DATA" with ACK-REPLY
abbrev pub confirmed_told : Told → List ℕ
confirmed_told told = cond (eqb told.message (type_of Data) && eqb told.flags ack_reply) (told.type-data ∷ []) []

-- the count of a message that is a READY, and of a READY that is told
abbrev pub ready_count : MessageType → ℕ → List ℕ
ready_count Open count = []
ready_count Ready count = count ∷ []
ready_count Noop count = []
ready_count Data count = []
ready_count Close count = []

abbrev pub ready_told : Told → List ℕ
ready_told told = cond (eqb told.message (type_of Ready)) (told.type-data ∷ []) []

-- what a message brings: its data, the count of a READY, and the DATA that it confirms
pub record Brought : Type 0 where
  pub carried : List Datum
  pub readies : List ℕ
  pub confirmed : List ℕ

abbrev pub brought_by : Told → Brought
brought_by told = record { carried = data_told told; readies = ready_told told; confirmed = confirmed_told told }

-- what an end confirms that was brought this and replied these: "the reply is the control frame with flags 2 for 1"
abbrev pub confirms_by : Brought → List Queued → List ℕ
confirms_by brought [] = []
confirms_by brought (reply ∷ rest) =
    read_off (λ type-data. same reply.bytes (reply_bytes (replying Data ack_reply type-data))) (λ type-data. type-data) (asked_for brought.carried)

-- the data of the newest batch, after an end wrote these READYs: the client's begin a new one
abbrev pub recent_after : End → List ℕ → List Datum → List Datum
recent_after end [] recent = recent
recent_after Client (count ∷ rest) recent = []
recent_after Server (count ∷ rest) recent = recent

-- a CLOSE ends the one who wrote it and the one who heard it
abbrev pub ended_by : Ending → MessageType → Ending → Ending
ended_by by-close Open before = before
ended_by by-close Ready before = before
ended_by by-close Noop before = before
ended_by by-close Data before = before
ended_by by-close Close before = by-close

-- a refusal that is replied to is a CLOSE written
abbrev pub ended_after : ℕ → Told → List Queued → Ending → Ending
ended_after number told replied before =
    cond (eqb told.message (type_of Close)) HeardClose
    (cond (eqb number 0 || eqb (length replied) 0) before WroteClose)

-- an end made a call that was accepted
abbrev pub after_call : End → History → Call → History
after_call end past call =
    record {
      sent = past.sent ++ data_sent call;
      accepted = past.accepted;
      readies = past.readies ++ ready_count (message_of call) (type_data_of call);
      readies_heard = past.readies_heard;
      confirmations = past.confirmations;
      confirmations_heard = past.confirmations_heard;
      recent = recent_after end (ready_count (message_of call) (type_data_of call)) past.recent;
      ending = ended_by WroteClose (message_of call) past.ending;
    }

-- an end was brought this, replied these, and has ended so
abbrev pub after_message : End → History → Brought → List Queued → Ending → History
after_message end past brought replied ending =
    record {
      sent = past.sent;
      accepted = past.accepted ++ brought.carried;
      readies = past.readies;
      readies_heard = past.readies_heard ++ brought.readies;
      confirmations = past.confirmations ++ confirms_by brought replied;
      confirmations_heard = past.confirmations_heard ++ brought.confirmed;
      recent = recent_after (across end) brought.readies past.recent ++ brought.carried;
      ending = ending;
    }

-- an accepted making begins a new history; of a call only what is accepted is noted
abbrev pub noted : {A O : Type 0} → End → History → Act O → Done A → History
noted end past (Makes making) done = cond (eqb done.number 0) no_history past
noted end past (Sends call out) done = cond (eqb done.number 0) (after_call end past call) past
noted end past (Receives m pipe out) done =
    after_message end past (brought_by done.told) done.wrote (ended_after done.number done.told done.wrote past.ending)

-- ---- two ends

-- an end: its state, the messages that it wrote and the other has not received, oldest first, and what it did and heard
pub record Side (A : Type 0) : Type 0 where
  pub self : A
  pub queue : List Queued
  pub past : History

pub record World (A : Type 0) : Type 0 where
  pub client : Side A
  pub server : Side A

module _ {A : Type 0} where
  abbrev pub side : World A → End → Side A
  side w Client = w.client
  side w Server = w.server

  -- an end and the one across from it
  abbrev pub joined : End → Side A → Side A → World A
  joined Client x y = record { client = x; server = y }
  joined Server x y = record { client = y; server = x }

  -- an end that was just made, and two of them
  abbrev pub made : A → Side A
  made self = record { self = self; queue = []; past = no_history }

  abbrev pub begun : A → A → World A
  begun client server = record { client = made client; server = made server }

  abbrev pub with_queue : Side A → List Queued → Side A
  with_queue y queue = record { self = y.self; queue = queue; past = y.past }

  -- "Every message or reply written joins its queue"
  abbrev pub after : {O : Type 0} → End → Side A → Act O → Done A → Side A
  after end x act done = record { self = done.next; queue = x.queue ++ done.wrote; past = noted end x.past act done }

-- "Whatever is called and delivered, in any order": a send with any arguments; the receiving of the head of a queue with any offer; each with any
-- output; and both ends made again
pub data Event (O : Type 0) : Type 0 where
  sends : End → Call → O → Event O
  receives : End → Offer → O → Event O
  makes : Makings → Event O

module _ {A O : Type 0} (p : Program A O) where
  abbrev pub acted : End → Side A → Act O → Side A
  acted end x act = after end x act (done_by p x.self act)

  -- "only the head of a queue is received"; where there is none, nothing is
  unfoldable pub after_receive : End → Side A → Side A → List Queued → Offer → O → World A
  after_receive end x y [] pipe out = joined end x y
  after_receive end x y (m ∷ rest) pipe out =
      joined end (acted end x (Receives m pipe out))
      (with_queue y (cond (is_kept (p.receive x.self m pipe out).number) (m ∷ rest) rest))

  unfoldable pub step : World A → Event O → World A
  step w (sends end call out) = joined end (acted end (side w end) (Sends call out)) (side w (across end))
  step w (receives end pipe out) =
      after_receive end (side w end) (side w (across end)) (side w (across end)).queue pipe out
  step w (makes makings) =
      record {
        client = acted Client w.client (Makes (making_of makings Client));
        server = acted Server w.server (Makes (making_of makings Server));
      }

  unfoldable pub run : World A → List (Event O) → World A
  run w [] = w
  run w (event ∷ rest) = run (step w event) rest

  -- both ends are made again where nothing is in transit and both makings are accepted
  pub record MayMake (w : World A) (makings : Makings) : Type 0 where
    pub none_coming : (end : End) → (side w end).queue ≡ []
    pub accepts : (end : End) → (p.make (side w end).self (making_of makings end)).number ≡ 0

  -- the arguments of a send are of their types
  abbrev pub EventFits : World A → Event O → Type 0
  EventFits w (sends end call out) = Fits call
  EventFits w (receives end pipe out) = Unit
  EventFits w (makes makings) = MayMake w makings

  abbrev pub AllFit : World A → List (Event O) → Type 0
  AllFit w [] = Unit
  AllFit w (event ∷ rest) = EventFits w event × AllFit (step w event) rest

-- an end, seen as another state
module _ {A B : Type 0} (view : A → B) where
  abbrev pub viewed_side : Side A → Side B
  viewed_side x = record { self = view x.self; queue = x.queue; past = x.past }

-- ---- a world is two runs

module _ {A O : Type 0} (p : Program A O) where
  -- what an end did and heard in a run of its own
  abbrev pub noted_in : End → History → A → List (Act O) → History
  noted_in end past self [] = past
  noted_in end past self (act ∷ rest) = noted_in end (noted end past act (done_by p self act)) (done_by p self act).next rest

  -- from one world to another each end came by acts of its own; what was on its way from it and what it wrote are what the other took and what is
  -- on its way now
  pub record Runs (w v : World A) : Type 0 where
    pub acts : End → List (Act O)
    pub left : (end : End) → (side v end).self ≡ left_in p (side w end).self (acts end)
    pub past : (end : End) → (side v end).past ≡ noted_in end (side w end).past (side w end).self (acts end)
    pub queued : (end : End) → (side w end).queue ++ wrote_in p (side w end).self (acts end)
        ≡ taken_in p (side w (across end)).self (acts (across end)) ++ (side v end).queue

-- whatever is called and delivered
abbrev pub TwoRuns : Type 1
TwoRuns = (A O : Type 0) (p : Program A O) (w : World A) (events : List (Event O)) → Runs p w (run p w events)
