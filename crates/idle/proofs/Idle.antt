-- A program that meets the contracts gives what the tables give; one that refuses everything, always hears NOOP or leaves the block gives something
-- else, so it does not meet them. Assumes nothing.
use mathlib.Core.Path.{◌≡◌, ◌∙◌, ap, refl}
use mathlib.Core.List.{List}
use Prim.Native.Nat.{ℕ}
use native.Mathlib.Omega.{arith}
use lib.ListN.{get_or}
use borrow.Author.Tests.{le-leb, lt-leb}
use Rattle.control.specs.declared.MessageType.TheVariants.{Noop}
use Rattle.control.specs.Frame.{type_of}
use Rattle.open.specs.Offer.{Offer}
use Rattle.endpoint.specs.Record.{opening}
use Rattle.endpoint.specs.Block.{load_of}
use Rattle.sending.specs.Calls.{Call}
use Rattle.machine.specs.Good.{Fits}
use Rattle.fbdp.specs.Slots.{slots_in}
use Rattle.entries.specs.Entries.{Entries, SendResult, ReceiveResult, Meets, by_tables}
use Rattle.machine.specs.Programs.{Making, fresh_by}
use Rattle.fbdp.proofs.Determined.{make_determined, send_determined, receive_determined}
use Rattle.entries.proofs.Entries.{tables_meet}
use Rattle.idle.specs.Idle.{OnlyTables, RefusingRejected, HearingNoopRejected, UntouchingRejected}
use Rattle.idle.specs.Idle.{VicesExist}
use Rattle.idle.proofs.Witnesses.{tables_give, made_client, opens, hears_open}

module _ (p : Entries) (meets : Meets p) where
  makes_as_tables : (making : Making) (block : List ℕ) → p.makes making block ≡ by_tables.makes making block
  makes_as_tables making block =
      let same = make_determined (fresh_by making) (meets.making making block) (tables_meet.making making block) in
      λ i. record { number = same.0 i; next = same.1 i }

  sends_as_tables : (call : Call) → Fits call → (block out : List ℕ) → p.sends call block out ≡ by_tables.sends call block out
  sends_as_tables call fits block out =
      let same = send_determined (meets.calls call fits block out) (tables_meet.calls call fits block out) in
      λ i. record { number = same.0 i; count = same.1 i; block = same.2 i; out = same.3 i }

  receives_as_tables : (s : List ℕ) (pipe : Offer) (block out : List ℕ) → p.receives s pipe block out ≡ by_tables.receives s pipe block out
  receives_as_tables s pipe block out =
      let same = receive_determined (meets.messages s pipe block out) (tables_meet.messages s pipe block out) in
      λ i. record { number = same.0 i; slots = same.1 i; block = same.2 i; out = same.3 i }

pub only_tables : OnlyTables
only_tables p meets = record { making = makes_as_tables p meets; calls = sends_as_tables p meets; messages = receives_as_tables p meets }

-- a program that meets the contracts takes each step of the opening as the tables do
module _ {p : Entries} (meets : Meets p) where
  opens_alike : opens p ≡ opens by_tables
  opens_alike = (only_tables p meets).calls _ (omega arith) _ _

  hears_open_alike : hears_open p ≡ hears_open by_tables
  hears_open_alike = (only_tables p meets).messages _ _ _ _

pub refusing_rejected : RefusingRejected
refusing_rejected p refuses meets =
    refuses.refuses_calls _ _ _ (ap (λ (result : SendResult). result.number) (opens_alike meets) ∙ tables_give.opened)

pub hearing_noop_rejected : HearingNoopRejected
hearing_noop_rejected p noop meets =
    let accepts = ap (λ (result : ReceiveResult). result.number) (hears_open_alike meets) ∙ tables_give.open_taken in
    let vice : (slots_in (hears_open p).slots).message ≡ type_of Noop = noop _ _ _ _ accepts in
    let alike = ap (λ (result : ReceiveResult). (slots_in result.slots).message) (hears_open_alike meets) in
    absurd (omega (arith, vice, alike, tables_give.open_heard))

pub untouching_rejected : UntouchingRejected
untouching_rejected p leaves meets =
    let vice : (opens p).block ≡ made_client = leaves.after_calls _ _ _ in
    let alike = ap (λ (result : SendResult). get_or result.block 2 0) (opens_alike meets) in
    absurd (omega (arith, ap (λ (block : List ℕ). get_or block 2 0) vice, alike, tables_give.phase_before, tables_give.phase_after))

pub vices_exist : VicesExist
vices_exist =
    record {
      refuses = λ number other. record { refuses_calls = λ call block out. other; refuses_messages = λ s pipe block out. other };
      hears_noop = λ s pipe block out accepts. refl;
      leaves_block = record { after_calls = λ call block out. refl; after_messages = λ s pipe block out. refl };
      opens_then_echoes =
          record {
            sends_open = λ call block out opening-still. rw (le-leb (load_of block).phase opening opening-still) refl;
            hears-open = λ s pipe block out opening-still. rw (le-leb (load_of block).phase opening opening-still) refl;
            stays = λ s pipe block out opened. rw (lt-leb (load_of block).phase opening opened) refl;
          };
      writes_back = λ s pipe block out opened. rw (lt-leb (load_of block).phase opening opened) refl;
    }
