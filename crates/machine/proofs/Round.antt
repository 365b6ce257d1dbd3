-- What is sent is read, and heard by an end that may hear it, as it was sent; and so is what is replied. Assumes nothing.
use mathlib.Core.Path.{◌≡◌, refl, ◌∙◌, ap}
use Prim.Native.Nat.{◌+◌, ◌<◌, ◌^◌, ℕ}
use mathlib.Core.Bool.{Bool, false, true}
use native.Mathlib.Omega.{arith}
use lib.Dec.{eqb, leb, lit<, ltb}
use lib.ListN.{length}
use borrow.Author.Tests.{leb-true, ltb-false, not-false}
use Rattle.bytes_be.specs.declared.Place.{Place}
use Rattle.bytes_be.proofs.Tests.{both_true}
use Rattle.control.specs.declared.MessageType.TheVariants.{Open, Ready, Noop, Data, Close}
use Rattle.control.specs.Frame.{ack_reply, ack_request}
use Rattle.double.specs.Limit.{least_limit, most_limit}
use Rattle.open.specs.Offer.{Offer}
use Rattle.open_write.specs.Frame.{frame_for, is_good}
use Rattle.open_write.proofs.Fields.{frame_short}
use Rattle.open_write.proofs.Round.{read_back}
use Rattle.message.specs.Reading.{strange_flags}
use Rattle.endpoint.specs.declared.Endpoint.{Endpoint}
use Rattle.endpoint.specs.Record.{limited, good}
use Rattle.endpoint.proofs.Told.{good_told}
use Rattle.table.specs.Table.{To, at_row}
use Rattle.receiving.specs.declared.Content.{Content}
use Rattle.receiving.specs.declared.Content.TheVariants.{Nothing, Opening as Content-as-Opening, Body as Content-as-Body}
use Rattle.receiving.specs.Numbers.{Received}
use Rattle.receiving.specs.Hearing.{accepted, carried_by, confirmed_by, hear_of, limited_by, open_at, open_carried, reply_to, unmatched, asks, confirms}
use Rattle.sending.specs.Calls.{Body, Missing, Given, body_size, written, Call, OPEN, READY, DATA, NOOP, CLOSE, Datum, outgoing, bundle_with, above_limit, misgiven, number_if, own_number, ask_of, flags_for, message_of}
use Rattle.sending.proofs.Decided.{accepted_passed, not_applies}
use Rattle.machine.specs.Good.{Fits}
use Rattle.machine.specs.Round.{ReadBack, ReadsBack, ContentSent, HeardAsSent, after_hearing, confirmation, is_offered, message_sent}
use Rattle.machine.proofs.Bundled.{frame_read, framed_read, plain_read}
use Rattle.machine.proofs.Hearing.{message_heard, offered_heard}
use Rattle.std.specs.Prelude.{Ok}

-- what 33 and 34 do not refuse

pub not_above : (e : Endpoint) (datum : Datum) → own_number e (DATA datum) ≡ 0 → ltb e.limit (8 + body_size datum.body) ≡ false
unfolding above_limit
not_above e datum own = not_applies (above_limit e datum) 33 (lit< tt) own

pub well_given : (asked : Offer) → number_if (misgiven asked) 34 ≡ 0 → is_good asked ≡ true
unfolding misgiven
well_given asked own = not-false (is_good asked) (not_applies (misgiven asked) 34 (lit< tt) own)

-- the flags of an own message are no strange ones, confirm nothing, and ask where it asks
record AskedFlags (ask : Bool) : Type 0 where
  known : strange_flags (flags_for ask) ≡ false
  own : eqb (flags_for ask) ack_reply ≡ false
  asks_for : eqb (flags_for ask) ack_request ≡ ask

asked_flags : (ask : Bool) → AskedFlags ask
unfolding strange_flags
asked_flags true = record { known = refl; own = refl; asks_for = refl }
asked_flags false = record { known = refl; own = refl; asks_for = refl }

module _ (e : Endpoint) (is-good : good e ≡ true) where
  -- a body of a message that is not above the limit
  body_short : (body : Body) → ltb e.limit (8 + body_size body) ≡ false → body_size body < 256 ^ 4
  body_short body within =
      let most = (both_true (leb least_limit e.limit) (leb e.limit most_limit) (good_told e is-good).bounded).1 in
      omega (arith, ltb-false e.limit (8 + body_size body) within, leb-true e.limit most_limit most)

  -- the frame of an OPEN with a good name and format
  open_short : (pipe : Offer) → is_good pipe ≡ true → length (frame_for e.flow pipe e.limit) < 256 ^ 4
  open_short pipe given = omega (arith, frame_short e.flow pipe e.limit given)

  -- a datum, with a body or without
  data_read : (type-data : ℕ) (ask : Bool) (body : Body) → type-data < 256 ^ 2 → body_size body < 256 ^ 4 → ReadBack e (DATA (record { type-data = type-data; ask = ask; body = body }))
  unfolding bundle_with
  data_read type-data ask Missing fits short =
      let flags = asked_flags ask in
      record { read = plain_read Data (flags_for ask) type-data fits flags.known (simp flags.own); framed = refl }
  data_read type-data ask (Given bytes) fits short =
      let flags = asked_flags ask in
      record {
        read = framed_read Data (flags_for ask) type-data fits bytes short flags.known (simp flags.own) (simp flags.own);
        framed = frame_read Data (flags_for ask) type-data fits bytes short;
      }

  call_read : (call : Call) → Fits call → own_number e call ≡ 0 → ReadBack e call
  unfolding bundle_with strange_flags
  call_read (OPEN asked) fits own =
      let frame = frame_for e.flow asked e.limit in
      let short = open_short asked (well_given asked own) in
      record { read = framed_read Open 0 0 fits frame short refl refl refl; framed = frame_read Open 0 0 fits frame short }
  call_read (READY count) fits own = record { read = plain_read Ready 0 count fits refl refl; framed = refl }
  call_read (DATA datum) fits own = data_read datum.type-data datum.ask datum.body fits (body_short datum.body (not_above e datum own))
  call_read (NOOP type-data ask) fits own = record { read = plain_read Noop (flags_for ask) type-data fits (asked_flags ask).known refl; framed = refl }
  call_read (CLOSE code) fits own = record { read = plain_read Close 0 code fits refl refl; framed = refl }

-- every call that is accepted is read as its message
pub reads_back : ReadsBack
reads_back e call fits room number =
    let passed = accepted_passed e (outgoing e call) room number in
    call_read e passed.is-good call fits passed.unrefused

-- ---- heard as sent

-- a call confirms nothing, and is answered where it asks
pub own_flags : (call : Call) → (confirms (message_of call) (flags_for (ask_of call)) ≡ false) × (asks (message_of call) (flags_for (ask_of call)) ≡ ask_of call)
own_flags (OPEN asked) = (refl, refl)
own_flags (READY count) = (refl, refl)
own_flags (DATA datum) = let flags = asked_flags datum.ask in (flags.own, flags.asks_for)
own_flags (NOOP type-data ask) = let flags = asked_flags ask in (flags.own, flags.asks_for)
own_flags (CLOSE code) = (refl, refl)

module _ (e : Endpoint) (call : Call) where
  never_unmatched : (r : Endpoint) → unmatched r (message_sent e call) ≡ false
  unfolding unmatched
  never_unmatched r = simp (own_flags call).0

  not_confirmed : (moved : Endpoint) → confirmed_by moved (message_sent e call) ≡ moved
  unfolding confirmed_by
  not_confirmed moved = simp (own_flags call).0

  answers : reply_to (message_sent e call) ≡ confirmation call
  unfolding reply_to
  answers = simp (own_flags call).1

-- what the content of a call becomes at the other end
record Carried (e : Endpoint) (call : Call) (r : Endpoint) (pipe : Offer) : Type 0 where
  content : Content
  sent : ContentSent e call (written e call) content
  carried : carried_by r (written e call) pipe (message_sent e call) ≡ Ok content
  limits : (moved : Endpoint) → limited_by moved content ≡ after_hearing e call moved

module _ (e : Endpoint) (is-good : good e ≡ true) (r : Endpoint) (pipe : Offer) where
  open-carried : (asked : Offer) → is_good asked ≡ true → ReadBack e (OPEN asked) → is_offered e (OPEN asked) r pipe ≡ true → Carried e (OPEN asked) r pipe
  unfolding carried_by open_at
  open-carried asked given back offers =
      let read = read_back e.flow asked e.limit given (good_told e is-good).bounded (written e (OPEN asked)) 18 back.framed in
      let heard = read.heard r.flow pipe ∙ offered_heard e.flow asked read.opening r.flow pipe offers in
      record {
        content = Content-as-Opening read.opening;
        sent =
            record {
              opening = read.opening;
              is = refl;
              socket = read.socket;
              named = read.named;
              formatted = read.formatted;
              parametrized = read.parametrized;
              announced = read.limited;
            };
        carried = ap open_carried heard;
        limits = λ moved. ap (limited moved) read.limited;
      }

  data_carried : (type-data : ℕ) (ask : Bool) (body : Body) → ReadBack e (DATA (record { type-data = type-data; ask = ask; body = body })) →
      Carried e (DATA (record { type-data = type-data; ask = ask; body = body })) r pipe
  unfolding carried_by
  data_carried type-data ask Missing back = record { content = Nothing; sent = refl; carried = refl; limits = λ moved. refl }
  data_carried type-data ask (Given bytes) back =
      let place : Place = record { at = 18; length = length bytes } in
      record { content = Content-as-Body place; sent = record { place = place; is = refl; stands = back.framed }; carried = refl; limits = λ moved. refl }

  call_carried : (call : Call) → own_number e call ≡ 0 → ReadBack e call → is_offered e call r pipe ≡ true → Carried e call r pipe
  unfolding carried_by
  call_carried (OPEN asked) own back offers = open-carried asked (well_given asked own) back offers
  call_carried (READY count) own back offers = record { content = Nothing; sent = refl; carried = refl; limits = λ moved. refl }
  call_carried (DATA datum) own back offers = data_carried datum.type-data datum.ask datum.body back
  call_carried (NOOP type-data ask) own back offers = record { content = Nothing; sent = refl; carried = refl; limits = λ moved. refl }
  call_carried (CLOSE code) own back offers = record { content = Nothing; sent = refl; carried = refl; limits = λ moved. refl }

-- every call that is accepted is heard as it was sent by every end that may hear it
pub heard_as_sent : HeardAsSent
unfolding accepted
heard_as_sent e call fits room number r pipe phase n may =
    let passed = accepted_passed e (outgoing e call) room number in
    let back = reads_back e call fits room number in
    let found = call_carried e passed.is-good r pipe call passed.unrefused back may.offered in
    let heard : hear_of r (written e call) pipe ≡ accepted r (message_sent e call) (To phase n) found.content =
    message_heard r (message_sent e call) phase n may.leads (written e call) pipe found.content back.read may.small found.carried (never_unmatched e call r) in
    record {
      content = found.content;
      carried = found.sent;
      answered = ap (λ (x : Received). x.answer) heard;
      after =
          ap (λ (x : Received). x.next) heard
          ∙ ap (λ (moved : Endpoint). limited_by moved found.content) (not_confirmed e call (at_row r phase n))
          ∙ found.limits (at_row r phase n);
      replied = ap (λ (x : Received). x.reply) heard ∙ answers e call;
    }
