-- What an end sends or hears is counted: what was sent and accepted, with what is left of the batch, stays within what was agreed, and what was
-- agreed within what was offered. Assumes nothing.
use mathlib.Core.Path.{◌≡◌, refl, sym, ap, subst, ◌∙◌}
use Prim.Native.Nat.{ℕ, ◌+◌, ◌-◌, ◌≤◌, zero-le}
use mathlib.Core.List.{List, [], ◌∷◌, ◌++◌, append-nil}
use mathlib.Core.Bool.{Bool, true, false, cond, ◌&&◌, ◌||◌}
use native.Mathlib.Omega.{arith}
use lib.Dec.{eqb, leb}
use lib.ListN.{length, length-append}
use borrow.Author.Tests.{eq-eqb, leb-true, ne_eqb}
use Rattle.bytes_be.proofs.Tests.{both_true, clash}
use Rattle.control.specs.declared.MessageType.{MessageType}
use Rattle.control.specs.declared.MessageType.TheVariants.{Open, Ready, Noop, Data, Close}
use Rattle.endpoint.specs.declared.Endpoint.{Endpoint}
use Rattle.endpoint.specs.Record.{idle, offer, batch, shut, count_fits, closed}
use Rattle.endpoint.proofs.Told.{good_told}
use Rattle.sending.specs.Calls.{Datum, Call, message_of, type_data_of, OPEN, READY, DATA, NOOP, CLOSE}
use Rattle.machine.specs.Good.{Sound}
use Rattle.machine.specs.Programs.{Queued}
use Rattle.session.specs.World.{End, across, Ending, History, data_sent, ready_count, recent_after, after_call, after_message, Client, Server}
use Rattle.session.specs.Packets.{Packet, row_message, type_data_in, data_in, ready_in, Called, Confirms, Closes}
use Rattle.session.specs.Confirmations.{brought_in, nothing_brought}
use Rattle.session.specs.Turns.{role_of}
use Rattle.session.specs.Demand.{agreed, offers_at, sum, newest, non_zero, EachAtMost}
use Rattle.session.specs.Invariant.{left, Within, OffersTaken, Counted}
use Rattle.session.proofs.Table.{Begun, nothing, something, Moved, opens, offers, takes, gives, rests, closes}

-- how many data a message carries
abbrev data_count : MessageType → ℕ
data_count Open = 0
data_count Ready = 0
data_count Noop = 0
data_count Data = 1
data_count Close = 0

carried_count : (m : Packet) → length (data_in m) ≡ data_count (row_message m)
carried_count (Called e (OPEN asked)) = refl
carried_count (Called e (READY count)) = refl
carried_count (Called e (DATA datum)) = refl
carried_count (Called e (NOOP type-data ask)) = refl
carried_count (Called e (CLOSE code)) = refl
carried_count (Confirms message type-data) = refl
carried_count (Closes code) = refl

-- an offer leaves nothing of a batch, and a batch all of itself
offer_left : {count next m : ℕ} → Begun offer count next m → left next m ≡ 0
offer_left (nothing none) = refl
offer_left (something some) = refl

batch_left : {count next m : ℕ} → Begun batch count next m → left next m ≡ count
batch_left (nothing none) = omega arith
batch_left (something some) = refl

all_left : (phase n : ℕ) → phase ≡ batch → left phase n ≡ n
all_left phase n batching = simp (eq-eqb phase batch batching)

-- a count that is agreed last

sum_last : (counts : List ℕ) (count : ℕ) → sum (counts ++ (count ∷ [])) ≡ sum counts + count
sum_last [] count = omega arith
sum_last (first ∷ rest) count = omega (arith, sum_last rest count)

newest_last : (counts : List ℕ) (count : ℕ) → newest (counts ++ (count ∷ [])) ≡ count
newest_last [] count = refl
newest_last (first ∷ []) count = refl
newest_last (first ∷ second ∷ rest) count = newest_last (second ∷ rest) count

-- the batch that a message agrees to: that of a READY of the client
abbrev agreement : End → MessageType → ℕ → List ℕ
agreement Client message count = ready_count message count
agreement Server message count = []

module _ (counts : List ℕ) (batched : List Datum) (all : ℕ) where
  -- a message that agrees to nothing and carries nothing leaves no more of the batch than there was
  kept_within : {recent phase n next m : ℕ} → left next m ≤ left phase n → Within counts all recent phase n
      → Within (counts ++ []) (all + 0) (recent + 0) next m
  kept_within fewer w = rw append-nil (record { in_all = omega (arith, w.in_all, fewer); in_newest = omega (arith, w.in_newest, fewer) })

  -- DATA takes one from it
  given_within : {recent phase n next m : ℕ} → phase ≡ batch → 1 ≤ n → Begun batch (n - 1) next m → Within counts all recent phase n
      → Within (counts ++ []) (all + 1) (recent + 1) next m
  given_within {phase = phase} {n = n} batching some begins w =
      let rest = batch_left begins in
      let whole = all_left phase n batching in
      rw append-nil (record { in_all = omega (arith, w.in_all, rest, whole, some); in_newest = omega (arith, w.in_newest, rest, whole, some) })

  -- the row of a message that the end `writer` writes leads its writer and its hearer from within to within
  row_within : (writer : End) {flow phase n type-data next m : ℕ} {message : MessageType}
      → Moved (role_of writer) flow phase n message type-data next m
      → (phase ≡ batch → 1 ≤ n) → Within counts all (length batched) phase n
      → Within (counts ++ agreement writer message type-data) (all + data_count message)
      (length (recent_after writer (ready_count message type-data) batched) + data_count message) next m
  row_within Client (opens is-client begins) some w = kept_within zero-le w
  row_within Client (offers differs low high begins) some w = absurd (differs refl)
  row_within Client {type-data = count} (takes is-client offered few begins) some w =
      let whole = batch_left begins in
      record { in_all = omega (arith, w.in_all, whole, sum_last counts count); in_newest = omega (arith, whole, newest_last counts count) }
  row_within Client (gives produces batching begins) some w = given_within batching (some batching) begins w
  row_within Client (rests low high) some w = kept_within (omega arith) w
  row_within Client (closes low high) some w = kept_within zero-le w
  row_within Server (opens is-client begins) some w = kept_within zero-le w
  row_within Server (offers differs low high begins) some w = kept_within (omega (arith, offer_left begins)) w
  row_within Server (takes is-client offered few begins) some w = clash cc
  row_within Server (gives produces batching begins) some w = given_within batching (some batching) begins w
  row_within Server (rests low high) some w = kept_within (omega arith) w
  row_within Server (closes low high) some w = kept_within zero-le w

-- "n is 1..65,535 in phases 3 and 4"
batch_some : (e : Endpoint) → Sound e → e.phase ≡ batch → 1 ≤ e.n
unfolding count_fits
batch_some e sound batching =
    let counts : cond (eqb e.phase offer || eqb e.phase batch) (leb 1 e.n && leb e.n 65535) (eqb e.n 0) ≡ true =
    (good_told e sound.is-good).counted in
    leb-true 1 e.n (both_true (leb 1 e.n) (leb e.n 65535) (rw batching at counts)).0

-- ---- offers

non_zero_append : (a b : List ℕ) → non_zero (a ++ b) ≡ non_zero a ++ non_zero b
non_zero_append [] b = refl
non_zero_append (count ∷ rest) b = go (eqb count 0) (non_zero_append rest b)
  where
    go : (t : Bool) {all : List ℕ} → all ≡ non_zero rest ++ non_zero b
        → cond t all (count ∷ all) ≡ cond t (non_zero rest) (count ∷ non_zero rest) ++ non_zero b
    go true same = same
    go false same = ap (λ (l : List ℕ). count ∷ l) same

-- one more offer
each_more : (counts made : List ℕ) (count : ℕ) → EachAtMost counts made → EachAtMost counts (made ++ (count ∷ []))
each_more [] made count each = tt
each_more (first ∷ rest) [] count each = absurd each
each_more (first ∷ rest) (most ∷ others) count each = (each.0, each_more rest others count each.1)

-- the last one is answered
each_last : (counts answered : List ℕ) (count most : ℕ) → EachAtMost counts (answered ++ (most ∷ [])) → length answered ≡ length counts → count ≤ most
    → EachAtMost (counts ++ (count ∷ [])) (answered ++ (most ∷ []))
each_last [] [] count most each long few = (few, tt)
each_last [] (next ∷ others) count most each long few = absurd (omega (arith, long))
each_last (first ∷ rest) [] count most each long few = absurd (omega (arith, long))
each_last (first ∷ rest) (next ∷ others) count most each long few = (each.0, each_last rest others count most each.1 (omega (arith, long)) few)

begun_later : {count next m : ℕ} → Begun batch count next m → next ≡ offer → ⊥
begun_later (nothing none) is = omega (arith, is)
begun_later (something some) is = omega (arith, is)

-- the offer that a message makes: that of a READY of the server
abbrev offering : End → MessageType → ℕ → List ℕ
offering Client message count = []
offering Server message count = ready_count message count

module _ (counts made : List ℕ) where
  -- a message that makes and answers no offer, where none is open
  others_taken : {phase n next m : ℕ} → phase ≤ batch → (phase ≡ offer → ⊥) → (next ≡ offer → ⊥) → OffersTaken counts made phase n
      → OffersTaken (counts ++ []) (made ++ []) next m
  others_taken low neither later t =
      simp append-nil
      (record { each = t.each; answered = []; open_offer = λ is. absurd (later is); no_offer = λ still other. t.no_offer low neither })

  rests_taken : {phase n : ℕ} → OffersTaken counts made phase n → OffersTaken (counts ++ []) (made ++ []) phase n
  rests_taken t = simp append-nil t

  closes_taken : {phase n : ℕ} → OffersTaken counts made phase n → OffersTaken counts made shut 0
  closes_taken t =
      record { each = t.each; answered = []; open_offer = λ is. absurd (omega (arith, is)); no_offer = λ low other. absurd (omega (arith, low)) }

  -- an offer of 0 is none
  offers_taken : {phase n count next m : ℕ} → phase ≤ idle → Begun offer count next m → OffersTaken counts made phase n
      → OffersTaken (counts ++ []) (made ++ non_zero (count ∷ [])) next m
  offers_taken high (nothing none) t = rw none (others_taken (omega (arith, high)) (λ is. omega (arith, is, high)) (λ is. omega (arith, is)) t)
  offers_taken {count = count} high (something some) t =
      simp (ne_eqb count 0 (λ none. omega (arith, none, some)), append-nil)
      (record {
        each = each_more counts made count t.each;
        answered = made;
        open_offer = λ is. (refl, t.no_offer (omega (arith, high)) (λ offered. omega (arith, offered, high)));
        no_offer = λ low other. absurd (other refl);
      })

  takes_taken : {phase n count next m : ℕ} → phase ≡ offer → count ≤ n → Begun batch count next m → OffersTaken counts made phase n
      → OffersTaken (counts ++ (count ∷ [])) (made ++ []) next m
  takes_taken {n = n} {count = count} offered few begins t =
      let last = t.open_offer offered in
      let long = ap length last.0 ∙ length-append t.answered (n ∷ []) in
      rw append-nil
      (record {
        each =
            subst (EachAtMost (counts ++ (count ∷ []))) (sym last.0)
            (each_last counts t.answered count n (subst (EachAtMost counts) last.0 t.each) last.1 few);
        answered = [];
        open_offer = λ is. absurd (begun_later begins is);
        no_offer = λ low other. omega (arith, long, last.1, length-append counts (count ∷ []));
      })

  -- the row of a message leads its writer and its hearer from offers taken to offers taken
  row_taken : (writer : End) {flow phase n type-data next m : ℕ} {message : MessageType} → Moved (role_of writer) flow phase n message type-data next m
      → OffersTaken counts made phase n
      → OffersTaken (counts ++ agreement writer message type-data) (made ++ non_zero (offering writer message type-data)) next m
  row_taken Client (opens is-client begins) t = others_taken (omega (arith, begins)) (λ is. omega (arith, is, begins)) (λ is. omega (arith, is)) t
  row_taken Client (offers differs low high begins) t = absurd (differs refl)
  row_taken Client (takes is-client offered few begins) t = takes_taken offered few begins t
  row_taken Client (gives produces batching begins) t =
      others_taken (omega (arith, batching)) (λ is. omega (arith, is, batching)) (begun_later begins) t
  row_taken Client (rests low high) t = rests_taken t
  row_taken Client (closes low high) t = rests_taken (closes_taken t)
  row_taken Server (opens is-client begins) t = clash cc
  row_taken Server (offers differs low high begins) t = offers_taken high begins t
  row_taken Server (takes is-client offered few begins) t = clash cc
  row_taken Server (gives produces batching begins) t =
      others_taken (omega (arith, batching)) (λ is. omega (arith, is, batching)) (begun_later begins) t
  row_taken Server (rests low high) t = rests_taken t
  row_taken Server (closes low high) t = rests_taken (closes_taken t)

-- ---- histories

-- what was agreed and offered after a call, and after a message was heard

called_agreed : (end : End) (past : History) (call : Call)
    → agreed end (after_call end past call) ≡ agreed end past ++ agreement end (message_of call) (type_data_of call)
called_agreed Client past call = refl
called_agreed Server past call = rw append-nil refl

called_offered : (end : End) (past : History) (call : Call)
    → offers_at end (after_call end past call) ≡ offers_at end past ++ non_zero (offering end (message_of call) (type_data_of call))
called_offered Client past call = rw append-nil refl
called_offered Server past call = non_zero_append past.readies (ready_count (message_of call) (type_data_of call))

module _ (past : History) (m : Packet) (replied : List Queued) (ending : Ending) where
  heard_agreed : (end : End)
      → agreed end (after_message end past (brought_in m) replied ending) ≡ agreed end past ++ agreement (across end) (row_message m) (type_data_in m)
  heard_agreed Client = rw append-nil refl
  heard_agreed Server = refl

  heard_offered : (end : End)
      → offers_at end (after_message end past (brought_in m) replied ending)
      ≡ offers_at end past ++ non_zero (offering (across end) (row_message m) (type_data_in m))
  heard_offered Client = non_zero_append past.readies_heard (ready_in m)
  heard_offered Server = rw append-nil refl

module _ (end : End) (e : Endpoint) (sound : Sound e) (past : History) (counted : Counted end past e) (next : Endpoint) (phase n : ℕ)
    (phased : next.phase ≡ phase) (numbered : next.n ≡ n) where
  abbrev all : ℕ
  all = length past.sent + length past.accepted

  -- an end sends
  pub sent_counted : (flow : ℕ) (call : Call) → Moved (role_of end) flow e.phase e.n (message_of call) (type_data_of call) phase n
      → Counted end (after_call end past call) next
  sent_counted flow call moves =
      let after = row_within (agreed end past) past.recent all end moves (batch_some e sound) counted.within in
      let carries = carried_count (Called e call) in
      record {
        within =
            rw (called_agreed end past call, phased, numbered)
            (record {
              in_all = omega (arith, after.in_all, carries, length-append past.sent (data_sent call));
              in_newest = omega (arith, after.in_newest);
            });
        taken =
            rw (called_agreed end past call, called_offered end past call, phased, numbered)
            (row_taken (agreed end past) (offers_at end past) end moves counted.taken);
      }

  -- an end hears what the other wrote
  pub heard_counted : (flow : ℕ) (m : Packet) (replied : List Queued) (ending : Ending)
      → Moved (role_of (across end)) flow e.phase e.n (row_message m) (type_data_in m) phase n
      → Counted end (after_message end past (brought_in m) replied ending) next
  heard_counted flow m replied ending moves =
      let after = row_within (agreed end past) past.recent all (across end) moves (batch_some e sound) counted.within in
      let carries = carried_count m in
      let batched = length-append (recent_after (across end) (ready_in m) past.recent) (data_in m) in
      record {
        within =
            rw (heard_agreed past m replied ending end, phased, numbered)
            (record {
              in_all = omega (arith, after.in_all, carries, length-append past.accepted (data_in m));
              in_newest = omega (arith, after.in_newest, carries, batched);
            });
        taken =
            rw (heard_agreed past m replied ending end, heard_offered past m replied ending end, phased, numbered)
            (row_taken (agreed end past) (offers_at end past) (across end) moves counted.taken);
      }

-- an end closes

nothing_agreed : (end : End) (past : History) (replied : List Queued) (ending : Ending)
    → agreed end (after_message end past nothing_brought replied ending) ≡ agreed end past
nothing_agreed Client past replied ending = refl
nothing_agreed Server past replied ending = append-nil past.readies_heard

nothing_offered : (end : End) (past : History) (replied : List Queued) (ending : Ending)
    → offers_at end (after_message end past nothing_brought replied ending) ≡ offers_at end past
nothing_offered Client past replied ending = ap non_zero (append-nil past.readies_heard)
nothing_offered Server past replied ending = refl

pub closed_counted : (end : End) (e : Endpoint) (past : History) → Counted end past e → (replied : List Queued) (ending : Ending)
    → Counted end (after_message end past nothing_brought replied ending) (closed e)
unfolding closed
closed_counted end e past counted replied ending =
    record {
      within =
          rw (nothing_agreed end past replied ending)
          (record {
            in_all = omega (arith, counted.within.in_all, length-append past.accepted []);
            in_newest = omega (arith, counted.within.in_newest, length-append past.recent []);
          });
      taken =
          rw (nothing_agreed end past replied ending, nothing_offered end past replied ending) (closes_taken (agreed end past) (offers_at end past) counted.taken);
    }
