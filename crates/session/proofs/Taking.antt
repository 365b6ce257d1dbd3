-- A packet that an end may take is taken. Assumes nothing.
use mathlib.Core.Path.{◌≡◌, ◌∙◌, ap, refl, subst, sym}
use Prim.Native.Nat.{ℕ, ◌+◌, ◌<◌, ◌≤◌, suc, zero}
use mathlib.Core.List.{List, [], ◌∷◌, append-nil, flat_map, map}
use mathlib.Core.Bool.{Bool, true, false, cond}
use native.Mathlib.Omega.{arith}
use lib.ListN.{drop, length}
use lib.Dec.{leb, ltb}
use borrow.Author.Tests.{eq-eqb, le-ltb, leb-true, lt-ltb, ltb-false}
use Rattle.bytes_be.specs.Part.{tabulate}
use Rattle.bytes_be.proofs.Tests.{both_true, clash}
use Rattle.control.specs.declared.MessageType.{MessageType}
use Rattle.control.specs.declared.MessageType.TheVariants.{Open, Ready, Noop, Data, Close}
use Rattle.control.specs.Frame.{ack_reply, type_of}
use Rattle.double.specs.Limit.{in_limits, least_limit, most_limit}
use Rattle.open.specs.Offer.{Offer}
use Rattle.endpoint.specs.declared.Endpoint.{Endpoint}
use Rattle.endpoint.specs.declared.Entry.{Entry}
use Rattle.endpoint.specs.Record.{awaited, confirmed, entry_at, limited, oldest, shut}
use Rattle.endpoint.proofs.Awaited.{confirmed_awaited, limited_awaited, oldest_awaited}
use Rattle.endpoint.proofs.StaysGood.{confirmed_good, confirmed_sized, limited_good, limited_sized}
use Rattle.endpoint.proofs.Told.{good_told}
use Rattle.open_write.specs.Frame.{frame_for}
use Rattle.open_write.proofs.Fields.{frame_short}
use Rattle.table.specs.Table.{To, at_row, other, row_of}
use Rattle.receiving.specs.declared.Content.{Content}
use Rattle.receiving.specs.Numbers.{Answer, Received}
use Rattle.receiving.specs.Hearing.{confirmable, confirms, hear_of, hear_row, matches_oldest, moves_as, too_large, unmatched}
use Rattle.receiving.specs.Receiving.{answer_number}
use Rattle.sending.specs.Calls.{Body, Missing, Given, as_frames, body_size, Call, OPEN, READY, DATA, NOOP, CLOSE, ask_of, message_of, outgoing, own_number, type_data_of, written}
use Rattle.sending.proofs.Decided.{accepted_passed}
use Rattle.machine.specs.Good.{Sound}
use Rattle.machine.specs.Round.{BodySent, ContentSent, after_hearing, confirmation, first_frame, is_reply, message_sent, message_with}
use Rattle.machine.proofs.Replies.{replies_heard}
use Rattle.machine.proofs.Round.{heard_as_sent, not_above, own_flags, well_given}
use Rattle.machine.specs.Bodies.{body_heard}
use Rattle.machine.specs.Programs.{told_of, replies, outcome_of}
use Rattle.session.specs.World.{End, Makings}
use Rattle.session.specs.Packets.{Packet, bytes_in, body_sent, told_in, Called, Confirms, Closes}
use Rattle.session.specs.Demand.{prompt_ledger}
use Rattle.session.specs.Confirmations.{asked_in, confirmed_in, entry_for}
use Rattle.session.specs.Laws.{answers_in, on_records, Comes, limit_after, MayTake, HeardOn}
use Rattle.session.proofs.Packets.{row_awaited, row_comes}
use Rattle.std.specs.Prelude.{None}
use Rattle.receiving.specs.Refusing.{replying}

-- ---- a call

-- the row of a call is that of its message
pub call_leads : (e : Endpoint) (call : Call) (r : Endpoint) (phase n : ℕ)
    → row_of (other r.role) (other r.flow) r.phase r.n (message_of call) (type_data_of call) ≡ To phase n
    → hear_row r (message_sent e call) ≡ To phase n
unfolding hear_row moves_as
call_leads e call r phase n leads = simp (own_flags call).0 leads

module _ (r : Endpoint) (sound : Sound r) where
  -- a good endpoint's limit is at least a million
  pub limit_least : least_limit ≤ r.limit
  limit_least =
      leb-true least_limit r.limit
      (both_true (leb least_limit r.limit) (leb r.limit most_limit) (good_told r sound.is-good).bounded).0

  -- what an end may send is not too large for another of its limit, and only data can be
  pub call_small : (e : Endpoint) (call : Call) → own_number e call ≡ 0
      → (message_of call ≡ Data → r.limit ≡ e.limit) → too_large r (message_sent e call) ≡ false
  unfolding too_large
  call_small e (OPEN asked) own same =
      let short = frame_short e.flow asked e.limit (well_given asked own) in
      let frame : ℕ = length (frame_for e.flow asked e.limit) in
      simp (le-ltb r.limit (8 + frame) (omega (arith, limit_least)), le-ltb 4096 frame (omega arith))
  call_small e (READY count) own same = le-ltb r.limit 8 (omega (arith, limit_least))
  call_small e (DATA datum) own same = data_small datum.body (not_above e datum own)
    where
      data_small : (body : Body) → ltb e.limit (8 + body_size body) ≡ false → ltb r.limit (8 + length (first_frame (as_frames body))) ≡ false
      data_small Missing below = le-ltb r.limit 8 (omega (arith, limit_least))
      data_small (Given bytes) below =
          let size = 8 + length bytes in
          le-ltb r.limit size (omega (arith, same refl, ltb-false e.limit size below))
  call_small e (NOOP type-data ask) own same = le-ltb r.limit 8 (omega (arith, limit_least))
  call_small e (CLOSE code) own same = refl

-- the body that is heard is the one sent
call_body : (e : Endpoint) (call : Call) (content : Content) → ContentSent e call (written e call) content
    → body_heard (written e call) content ≡ body_sent call
call_body e (OPEN asked) content sent = simp sent.is
call_body e (READY count) content sent = simp sent
call_body e (DATA datum) content sent = go datum.body sent
  where
    go : (body : Body) → BodySent body (written e (DATA datum)) content → body_heard (written e (DATA datum)) content ≡ body
    go Missing sent = simp sent
    go (Given bytes) sent = simp (sent.is, sent.stands)
call_body e (NOOP type-data ask) content sent = simp sent
call_body e (CLOSE code) content sent = simp sent

confirming_replies : (e : Endpoint) (call : Call) → replies (confirmation call) ≡ map bytes_in (answers_in (λ message. true) (Called e call))
confirming_replies e call = go (ask_of call)
  where
    go : (t : Bool) → replies (cond t (replying (message_of call) ack_reply (type_data_of call)) None)
        ≡ map bytes_in (cond t (Confirms (message_of call) (type_data_of call) ∷ []) [])
    go true = refl
    go false = refl

-- an OPEN brings its limit
module _ (e r : Endpoint) (in-limits : in_limits e.limit ≡ true) (after : Endpoint) (phase n : ℕ) (comes : Comes r phase n r.limit after) where
  hearing_comes : (call : Call) → Comes r phase n (limit_after (Called e call) r.limit) (after_hearing e call after)
  unfolding limited
  hearing_comes (OPEN asked) =
      record {
        sound =
            record {
              sized = limited_sized after comes.sound.sized e.limit;
              is-good = limited_good after comes.sound.is-good e.limit in-limits;
            };
        phased = comes.phased;
        counted = comes.counted;
        role = comes.role;
        flow = comes.flow;
        limited = refl;
      }
  hearing_comes (READY count) = comes
  hearing_comes (DATA datum) = comes
  hearing_comes (NOOP type-data ask) = comes
  hearing_comes (CLOSE code) = comes

  hearing_awaited : (call : Call) → awaited (after_hearing e call after) ≡ awaited after
  hearing_awaited (OPEN asked) = limited_awaited after e.limit
  hearing_awaited (READY count) = refl
  hearing_awaited (DATA datum) = refl
  hearing_awaited (NOOP type-data ask) = refl
  hearing_awaited (CLOSE code) = refl

-- ---- a reply

reply_small : (r : Endpoint) → Sound r → (message : MessageType) (flags type-data : ℕ) → is_reply message flags ≡ true
    → too_large r (message_with message flags type-data []) ≡ false
unfolding too_large
reply_small r sound Open flags type-data reply = clash cc
reply_small r sound Ready flags type-data reply = clash cc
reply_small r sound Noop flags type-data reply = le-ltb r.limit 8 (omega (arith, limit_least r sound))
reply_small r sound Data flags type-data reply = le-ltb r.limit 8 (omega (arith, limit_least r sound))
reply_small r sound Close flags type-data reply = refl

-- a confirmation is a reply that confirms
record Quiets (message : MessageType) : Type 0 where
  confirming : confirms message ack_reply ≡ true
  reply : is_reply message ack_reply ≡ true

confirmation_quiets : (message : MessageType) → confirmable message ≡ true → Quiets message
confirmation_quiets Open reply = clash cc
confirmation_quiets Ready reply = clash cc
confirmation_quiets Noop reply = record { confirming = refl; reply = refl }
confirmation_quiets Data reply = record { confirming = refl; reply = refl }
confirmation_quiets Close reply = clash cc

-- where one is awaited, there is an oldest
some_awaited : (w : ℕ) (entries : List ℕ) (entry : Entry) (rest : List Entry) → tabulate 0 w (entry_at entries) ≡ entry ∷ rest → 0 < w
some_awaited zero entries entry rest awaits = clash cc
some_awaited (suc k) entries entry rest awaits = omega arith

module _ (r : Endpoint) (message : MessageType) (type-data : ℕ) where
  -- it takes the row of NOOP
  confirmation_leads : confirms message ack_reply ≡ true → (phase n : ℕ)
      → row_of (other r.role) (other r.flow) r.phase r.n Noop type-data ≡ To phase n
      → hear_row r (message_with message ack_reply type-data []) ≡ To phase n
  unfolding hear_row moves_as
  confirmation_leads confirming phase n leads = simp confirming leads

  -- it is that of the oldest entry
  confirmation_matched : confirms message ack_reply ≡ true → (rest : List Entry) → awaited r ≡ entry_for message type-data ∷ rest
      → unmatched r (message_with message ack_reply type-data []) ≡ false
  unfolding unmatched matches_oldest
  confirmation_matched confirming rest awaits =
      let some : 0 < r.w = some_awaited r.w r.entries (entry_for message type-data) rest awaits in
      let whole : oldest r ∷ drop 1 (awaited r) ≡ entry_for message type-data ∷ rest = sym (oldest_awaited r some) ∙ awaits in
      let same : oldest r ≡ entry_for message type-data = cc in
      simp (confirming, lt-ltb 0 r.w some, same, eq-eqb (type_of message) (type_of message) refl, eq-eqb type-data type-data refl)

-- it removes that entry alone
confirmed_comes : (r after : Endpoint) (phase n limit : ℕ) → Comes r phase n limit after → Comes r phase n limit (confirmed after)
unfolding confirmed
confirmed_comes r after phase n limit comes =
    record {
      sound =
          record {
            sized = confirmed_sized after comes.sound.sized;
            is-good = confirmed_good after comes.sound.sized.full comes.sound.is-good;
          };
      phased = comes.phased;
      counted = comes.counted;
      role = comes.role;
      flow = comes.flow;
      limited = comes.limited;
    }

-- a CLOSE asks and confirms nothing
close_leads : (r : Endpoint) (code phase n : ℕ) → row_of (other r.role) (other r.flow) r.phase r.n Close code ≡ To phase n
    → hear_row r (message_with Close 0 code []) ≡ To phase n
unfolding hear_row moves_as
close_leads r code phase n leads = leads

close_matched : (r : Endpoint) (code : ℕ) → unmatched r (message_with Close 0 code []) ≡ false
unfolding unmatched
close_matched r code = refl

-- ---- every packet

-- the confirmation of a packet confirms what it asks for
answers_confirm : (m : Packet) → flat_map confirmed_in (answers_in (λ message. true) m) ≡ asked_in m
unfolding flat_map
answers_confirm (Called e call) = go (ask_of call)
  where
    go : (ask : Bool) → flat_map confirmed_in (cond ask (Confirms (message_of call) (type_data_of call) ∷ []) [])
        ≡ cond ask (entry_for (message_of call) (type_data_of call) ∷ []) []
    go true = refl
    go false = refl
answers_confirm (Confirms message type-data) = refl
answers_confirm (Closes code) = refl

module _ (makings : Makings) (end : End) (r : Endpoint) (pipe : Offer) (phase n : ℕ) (rest : ℕ → List Entry) where
  abbrev May : Packet → Type 0
  May m = MayTake on_records.rules makings end r (prompt_ledger r) m pipe phase n rest

  -- what comes of a packet by the tables
  abbrev came : Packet → Received
  came m = hear_of r (bytes_in m) pipe

  abbrev Hears : Packet → Type 0
  Hears m = HeardOn on_records r (prompt_ledger r) m phase n rest (outcome_of (bytes_in m) (came m))

  -- it is heard where it is told as it was sent, and the endpoint comes to where its row leads
  heard_so : (m : Packet) (next : Endpoint) → answer_number (came m).answer ≡ 0 → told_of (bytes_in m) (came m).answer ≡ told_in m
      → replies (came m).reply ≡ map bytes_in (answers_in (λ message. true) m) → (came m).next ≡ next
      → Comes r phase n (limit_after m r.limit) next → ((line : ℕ) → (phase ≡ shut → ⊥) → awaited next ≡ rest line) → Hears m
  heard_so m next answered told replied after comes awaits =
      record {
        answered = answered;
        told = told;
        replied = replied;
        fine = subst Sound (sym after) comes.sound;
        comes = subst (Comes r phase n _) (sym after) comes;
        left = λ line. [];
        balance = λ line. append-nil (flat_map confirmed_in (answers_in (λ message. true) m)) ∙ answers_confirm m;
        owes = λ line goes. refl;
        awaits = λ line goes. ap awaited after ∙ awaits line goes;
      }

  call_taken : (e : Endpoint) (call : Call) → May (Called e call) → Hears (Called e call)
  call_taken e call may =
      let made = may.proper in
      let room = made.accepted.room in
      let passed = accepted_passed e (outgoing e call) room made.accepted.accepted in
      let back =
      heard_as_sent e call made.fits room made.accepted.accepted r pipe phase n
      (record {
        leads = call_leads e call r phase n may.leads;
        small = call_small r may.sound e call passed.unrefused (λ bears. may.limited bears ∙ sym made.limited);
        offered = may.offered;
      }) in
      let comes = row_comes r may.sound (other r.role) (other r.flow) (message_of call) (type_data_of call) phase n made.fits may.leads in
      let in-limits = (good_told e passed.is-good).bounded in
      let after : Endpoint = at_row r phase n in
      heard_so (Called e call) (after_hearing e call after) (ap answer_number back.answered)
      (simp (back.answered, call_body e call back.content back.carried)) (ap replies back.replied ∙ confirming_replies e call) back.after
      (hearing_comes e r in-limits after phase n comes call)
      (λ line goes. hearing_awaited e r in-limits after phase n comes call ∙ row_awaited r phase n goes ∙ may.awaits line)

  -- a reply is heard without a reply
  reply_taken : (m : Packet) (answer : Answer) (next : Endpoint) → came m ≡ record { answer = answer; next = next; reply = None }
      → answer_number answer ≡ 0 → told_of (bytes_in m) answer ≡ told_in m → answers_in (λ message. true) m ≡ []
      → Comes r phase n (limit_after m r.limit) next → ((line : ℕ) → (phase ≡ shut → ⊥) → awaited next ≡ rest line) → Hears m
  reply_taken m answer next heard answered told silent comes awaits =
      heard_so m next (ap (λ (x : Received). answer_number x.answer) heard ∙ answered)
      (ap (λ (x : Received). told_of (bytes_in m) x.answer) heard ∙ told) (ap (λ (x : Received). replies x.reply) heard ∙ rw silent refl)
      (ap (λ (x : Received). x.next) heard) comes awaits

  confirmation_taken : (message : MessageType) (type-data : ℕ) → May (Confirms message type-data) → Hears (Confirms message type-data)
  confirmation_taken message type-data may =
      let proper = may.proper in
      let quiet = confirmation_quiets message proper.0 in
      let after : Endpoint = at_row r phase n in
      let heard =
      replies_heard message ack_reply type-data quiet.reply proper.1 r pipe phase n
      (record {
        leads = confirmation_leads r message type-data quiet.confirming phase n may.leads;
        small = reply_small r may.sound message ack_reply type-data quiet.reply;
        matched = confirmation_matched r message type-data quiet.confirming (rest 0) (may.awaits 0);
      }) in
      let comes = row_comes r may.sound (other r.role) (other r.flow) Noop type-data phase n proper.1 may.leads in
      reply_taken (Confirms message type-data) _ (confirmed after) (rw quiet.confirming at heard) refl refl refl
      (confirmed_comes r after phase n r.limit comes)
      (λ line goes. confirmed_awaited after comes.sound.sized.full ∙ ap (drop 1) (row_awaited r phase n goes ∙ may.awaits line))

  close_taken : (code : ℕ) → May (Closes code) → Hears (Closes code)
  close_taken code may =
      let heard =
      replies_heard Close 0 code refl may.proper r pipe phase n
      (record { leads = close_leads r code phase n may.leads; small = reply_small r may.sound Close 0 code refl; matched = close_matched r code }) in
      reply_taken (Closes code) _ (at_row r phase n) heard refl refl refl
      (row_comes r may.sound (other r.role) (other r.flow) Close code phase n may.proper may.leads)
      (λ line goes. row_awaited r phase n goes ∙ may.awaits line)

  -- a packet that an end may take is taken
  pub packet_taken : (m : Packet) → May m → Hears m
  packet_taken (Called e call) = call_taken e call
  packet_taken (Confirms message type-data) = confirmation_taken message type-data
  packet_taken (Closes code) = close_taken code
