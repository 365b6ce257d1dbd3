-- Entries that meet their contracts do on a block what the tables do on the record that it holds, and so demand 3 holds of them
-- and byte 6 is true. Assumes nothing.
use mathlib.Core.Path.{◌≡◌, ◌∙◌, ap, refl, sym}
use Prim.Native.Nat.{ℕ, ◌+◌, ◌≤◌}
use mathlib.Core.List.{List, []}
use mathlib.Core.Bool.{Bool, false, true, cond}
use native.Mathlib.Omega.{arith}
use lib.ListN.{length, take}
use lib.Dec.{eqb}
use lib.Seq.{take_all}
use borrow.Author.Tests.{eqb-false, eqb-true, ne_eqb}
use Rattle.bytes_be.proofs.Tests.{clash, took_first}
use Rattle.bytes_be.specs.Part.{put_at}
use Rattle.bytes_be.proofs.Parts.{length_put, part_put}
use Rattle.open.specs.Offer.{Offer}
use Rattle.endpoint.specs.declared.Endpoint.{Endpoint}
use Rattle.endpoint.specs.Record.{given_number, good, made_of}
use Rattle.endpoint.proofs.Made.{made_accepted}
use Rattle.endpoint.specs.Block.{bytes_of, is_good, load_of}
use Rattle.endpoint.proofs.Round.{block_told, byte_six_counts, loaded_good, loaded_sized, stored_loads}
use Rattle.endpoint.proofs.Stored.{length_block}
use Rattle.receiving.specs.Numbers.{Answer, Heard, Stays, Closes, Received}
use Rattle.receiving.specs.Receiving.{answer_number, received_of, replied}
use Rattle.receiving.specs.Refusing.{unchanged}
use Rattle.sending.specs.Calls.{Call, outgoing, written}
use Rattle.sending.specs.Sending.{Sent, left_by, send_of}
use Rattle.sending.proofs.Decided.{accepted_passed, accepted_sent}
use Rattle.machine.specs.Good.{Sound, Fits}
use Rattle.machine.specs.Refusals.{DoesAs, said_by}
use Rattle.machine.proofs.Good.{heard_good, sent_good}
use Rattle.machine.proofs.Refusals.{receive_does}
use Rattle.machine.proofs.Stages.{uncoded}
use Rattle.fbdp.specs.Slots.{answer_slots, heard_slots, slots_in}
use Rattle.fbdp.specs.Blocks.{MakeAnswer, make_number, SendOnBlock, ReceiveOnBlock, kept_after, kept_by, reply_length, stays, stored}
use Rattle.machine.specs.Programs.{Making, fresh_by, told_of, replies, outcome_of, ReceiveOutcome, ignored, tables}
use Rattle.entries.specs.Entries.{Entries, Meets, on_blocks, told_by, receive_told, replies_by, TablesMeet, by_tables, MadeAreFresh, DemandOnBlocks, GoodBlocksStayGood, ByteSixTells}
use Rattle.session.specs.World.{side}
use Rattle.session.specs.Demand.{prompt_ledger}
use Rattle.session.specs.Laws.{on_records}
use Rattle.session.proofs.Follows.{Alike, Follows, follows_laws, held_by}
use Rattle.session.proofs.Ends.{fresh_sound}
use Rattle.session.proofs.Tables.{fresh_due, tables_laws}
use Rattle.entries.proofs.Told.{answer_told, reply_told}
use Rattle.session.proofs.Demand.{laws_suffice}
use Rattle.control.specs.declared.Control.{Control}
use Rattle.std.specs.Prelude.{Option, None, Some}

pub tables_meet : TablesMeet
unfolding by_tables
tables_meet =
    record {
      making = λ making block. record { numbered = refl; kept = refl };
      calls = λ call fits block out. record { finished = record { numbered = refl; counted = refl; kept = refl }; left = refl };
      messages = λ s pipe block out. record { numbered = refl; told = refl; kept = refl; left = refl };
    }

-- a record that is stored in 64 bytes is loaded again

module _ (e : Endpoint) (sound : Sound e) (block : List ℕ) (full : length block ≡ 64) where
  long : length (bytes_of e) ≡ 64
  long = length_block e sound.sized.full

  stored_whole : stored e block ≡ bytes_of e
  unfolding stored
  stored_whole =
      sym (take_all (length (bytes_of e)) (put_at block 0 (bytes_of e)) (omega (arith, long, length_put block 0 (bytes_of e))))
      ∙ part_put block 0 (bytes_of e) (omega (arith, long))

  stored_back : load_of (stored e block) ≡ e
  stored_back = ap load_of stored_whole ∙ stored_loads e sound.sized sound.is-good

-- the block of a good record has 64 bytes
block_full : (block : List ℕ) → Sound (load_of block) → length block ≡ 64
block_full block sound = (block_told block (sym (loaded_good block) ∙ sound.is-good)).full

-- and a block that holds a good record is good
holds_good : (block : List ℕ) (e : Endpoint) → load_of block ≡ e → Sound e → is_good block ≡ true
holds_good block e holds sound = sym (loaded_good block) ∙ ap good holds ∙ sound.is-good

-- a send: the bytes that the entry wrote are those of the call, and its block holds the record after it

module _ (block : List ℕ) (call : Call) (out : List ℕ) (number count : ℕ) (block' out' : List ℕ)
    (answer : SendOnBlock call block out number count block' out') where
  abbrev result : Sent
  result = send_of (load_of block) call (length out)

  module _ (accepts : result.number ≡ 0) where
    bytes_out : take count out' ≡ written (load_of block) call
    unfolding left_by
    bytes_out =
        let before = load_of block in
        let whole = accepted_sent before (outgoing before call) (length out) accepts in
        let counted : count ≡ length (written before call) = answer.finished.counted ∙ ap (λ (s : Sent). s.written) whole in
        let put : out' ≡ put_at out 0 (written before call) = rw accepts at answer.left in
        let room = (accepted_passed before (outgoing before call) (length out) accepts).fits in
        (λ i. take (counted i) (put i)) ∙ part_put out 0 (written before call) (omega (arith, room))

    sent_back : Sound (load_of block) → Sound result.next → load_of block' ≡ result.next
    unfolding kept_after
    sent_back sound next-sound =
        let kept : block' ≡ stored result.next block = rw accepts at answer.finished.kept in
        ap load_of kept ∙ stored_back result.next next-sound block (block_full block sound)

  refused_kept : (number ≡ 0 → ⊥) → block' ≡ block
  unfolding kept_after
  refused_kept refusal = rw (← answer.finished.numbered, ne_eqb number 0 refusal) at answer.finished.kept

  -- and the block stays good
  sent_stays_good : Sound (load_of block) → Fits call → is_good block' ≡ true
  sent_stays_good sound fits = go (eqb result.number 0) refl
    where
      go : (t : Bool) → eqb result.number 0 ≡ t → is_good block' ≡ true
      go true accepts =
          let next-sound = sent_good (load_of block) sound call fits (length out) in
          holds_good block' _ (sent_back (eqb-true result.number 0 accepts) sound next-sound) next-sound
      go false refuses =
          ap is_good (refused_kept (λ none. eqb-false result.number 0 refuses (sym answer.finished.numbered ∙ none)))
          ∙ sym (loaded_good block)
          ∙ sound.is-good

-- a receive: what the entry told, wrote and left is what the record in its block came to

received_back : (s block : List ℕ) (answer : Answer) (next : Endpoint) (reply : Option Control)
    → DoesAs (load_of block) s (record { answer = answer; next = next; reply = reply }) answer → length block ≡ 64 → Sound next
    → load_of (cond (stays answer) block (stored next block)) ≡ next
unfolding unchanged
received_back s block (Heard heard) next reply does full sound = stored_back next sound block full
received_back s block (Stays number) next reply does full sound = ap (λ (r : Received). r.next) (sym does)
received_back s block (Closes number) next reply does full sound = stored_back next sound block full

-- a receive that answers 2 or 3 leaves the block, as no CLOSE has such a number
ignored_stays : (e : Endpoint) (s : List ℕ) (received : Received) (answer : Answer) → DoesAs e s received answer
    → (2 ≤ answer_number answer) × (answer_number answer ≤ 3) → stays answer ≡ true
ignored_stays e s received (Heard heard) does among = absurd (omega (arith, among.0))
ignored_stays e s received (Stays number) does among = refl
ignored_stays e s received (Closes number) does among = absurd (does.coded (uncoded e number (said_by s) (omega (arith, among.1))))

no_reply : (answer : Answer) (reply : Option Control) (out : List ℕ) → replies reply ≡ []
    → replies_by (answer_slots answer (reply_length reply)) (replied reply out) ≡ []
unfolding heard_slots
no_reply (Heard heard) None out none = refl
no_reply (Stays number) None out none = refl
no_reply (Closes number) None out none = refl
no_reply answer (Some frame) out none = clash cc

module _ (s : List ℕ) (pipe : Offer) (block out : List ℕ) (number : ℕ) (slots block' out' : List ℕ)
    (answer : ReceiveOnBlock s pipe block out number slots block' out') where
  abbrev heard : Received
  heard = received_of (load_of block) s pipe (length out)

  abbrev outcome : ReceiveOutcome (List ℕ)
  outcome = receive_told s (record { number = number; slots = slots; block = block'; out = out' })

  received_told : outcome.told ≡ told_of s heard.answer
  received_told = ap (λ (numbers : List ℕ). told_by s (slots_in numbers)) answer.told ∙ answer_told (load_of block) s pipe (length out) (reply_length heard.reply) heard.answer refl

  -- the block holds the record after it
  received_holds : Sound (load_of block) → Sound heard.next → load_of block' ≡ heard.next
  unfolding kept_by
  received_holds sound next-sound =
      let does = receive_does (load_of block) s pipe (length out) in
      ap load_of answer.kept ∙ received_back s block heard.answer heard.next heard.reply does (block_full block sound) next-sound

  received_alike : 14 ≤ length out → Sound (load_of block) → Sound heard.next → Alike load_of outcome (outcome_of s heard)
  received_alike room sound next-sound =
      record {
        number = answer.numbered;
        told = received_told;
        replied = (λ i. replies_by (slots_in (answer.told i)) (answer.left i)) ∙ reply_told heard.answer heard.reply out room;
        next = received_holds sound next-sound;
      }

  received_ignored : (k : ℕ) → (2 ≤ k) × (k ≤ 3) → outcome_of s heard ≡ ignored k (load_of block) → outcome ≡ ignored k block
  unfolding kept_by
  received_ignored k among same =
      let number_of : answer_number heard.answer ≡ k = ap (λ (r : ReceiveOutcome Endpoint). r.number) same in
      let none_told = received_told ∙ ap (λ (r : ReceiveOutcome Endpoint). r.told) same in
      let none = no_reply heard.answer heard.reply out (ap (λ (r : ReceiveOutcome Endpoint). r.replied) same) in
      let none-replied = (λ i. replies_by (slots_in (answer.told i)) (answer.left i)) ∙ none in
      let does = receive_does (load_of block) s pipe (length out) in
      let kept : block' ≡ block = answer.kept ∙ simp (ignored_stays (load_of block) s heard heard.answer does (omega (arith, number_of, among.0), omega (arith, number_of, among.1))) in
      λ i. record { number = (answer.numbered ∙ number_of) i; told = none_told i; replied = none-replied i; next = kept i }

-- a making: what was made has 64 bytes and is loaded again

made_back : (block : List ℕ) (made : Endpoint) (number : ℕ) (block' : List ℕ) → MakeAnswer made block number block' → number ≡ 0
    → (given_number (made_of made) ≡ 0) × (Sound made → load_of block' ≡ made)
unfolding make_number
made_back block made number block' answer accepts =
    let accepted = sym answer.numbered ∙ accepts in
    let passed = took_first (eqb (length block) 64) (λ one. omega arith) accepted in
    let kept : block' ≡ stored made block = rw ((made_accepted made passed.1).1, passed.0) at answer.kept in
    (passed.1, λ sound. ap load_of kept ∙ stored_back made sound block (eqb-true (length block) 64 passed.0))

pub made_are_fresh : MadeAreFresh
made_are_fresh making memory block answer =
    let back = made_back memory (fresh_by making) 0 block answer refl in
    let given = (made_accepted (fresh_by making) back.0).0 in
    let loads = back.1 (fresh_sound making given) in
    record { given = given; holds = loads; none_due = ap prompt_ledger loads ∙ fresh_due making }

module _ (entries : Entries) (meets : Meets entries) where
  entries_make : (block : List ℕ) (making : Making) → (entries.makes making block).number ≡ 0
      → ((tables.make (load_of block) making).number ≡ 0)
      × (Sound (tables.make (load_of block) making).next → load_of (entries.makes making block).next ≡ (tables.make (load_of block) making).next)
  entries_make block making accepts =
      let back = made_back block (fresh_by making) _ _ (meets.making making block) accepts in
      (back.0, rw (made_accepted (fresh_by making) back.0).1 back.1)

  entries_write : (block : List ℕ) (call : Call) (out : List ℕ) → Sound (load_of block) → Fits call
      → (tables.send (load_of block) call (length out)).number ≡ 0 → Sound (tables.send (load_of block) call (length out)).next
      → (((on_blocks entries).send block call out).bytes ≡ (tables.send (load_of block) call (length out)).bytes)
      × (load_of ((on_blocks entries).send block call out).next ≡ (tables.send (load_of block) call (length out)).next)
  entries_write block call out sound fits accepts next-sound =
      let answer = meets.calls call fits block out in
      (bytes_out block call out _ _ _ _ answer accepts, sent_back block call out _ _ _ _ answer accepts sound next-sound)

  entries_follow : Follows (on_blocks entries) tables load_of length on_records
  entries_follow =
      record {
        room = λ out. refl;
        makes = entries_make;
        numbered = λ block call out fits. (meets.calls call fits block out).finished.numbered;
        writes = entries_write;
        stays = λ block call out sound fits refusal. refused_kept block call out _ _ _ _ (meets.calls call fits block out) refusal;
        receives = λ block m pipe out sound room next-sound.
            received_alike m.bytes pipe block out _ _ _ _ (meets.messages m.bytes pipe block out) room sound next-sound;
        ignores = λ block m pipe out k among same.
            received_ignored m.bytes pipe block out _ _ _ _ (meets.messages m.bytes pipe block out) k among same;
      }

-- so they have the laws, and demand 3 holds of them
pub demand_on_blocks : DemandOnBlocks
demand_on_blocks entries meets =
    laws_suffice (List ℕ) (List ℕ) (on_blocks entries) (held_by load_of on_records)
    (follows_laws (on_blocks entries) tables load_of length on_records (entries_follow entries meets) tables_laws)

-- every send and every receive leaves a good block good
pub good_blocks_stay_good : GoodBlocksStayGood
good_blocks_stay_good block bytes g =
    let sound : Sound (load_of block) = record { sized = loaded_sized block bytes; is-good = loaded_good block ∙ g } in (
      λ call fits out number count block' out' answer. sent_stays_good block call out number count block' out' answer sound fits,
      λ s s-bytes pipe out number slots block' out' answer.
          let next-sound = heard_good (load_of block) sound s s-bytes pipe (length out) in
          holds_good block' _ (received_holds s pipe block out number slots block' out' answer sound next-sound) next-sound,
    )

pub byte_six_tells : ByteSixTells
byte_six_tells p w holds end going =
    let block : List ℕ = (side w end).self in
    let counts = byte_six_counts block (sym (loaded_good block) ∙ holds.stays_good end) in
    (holds.accounted end).unconfirmed going ∙ ap (λ (k : ℕ). length (side w end).past.confirmations_heard + k) (sym counts.0)
