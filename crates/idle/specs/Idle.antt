-- "Four idle programs are to be tried and rejected: one that refuses everything, one that always hears NOOP, one that leaves the block untouched,
-- one that opens properly and afterwards only echoes. .. A made-up n or W fails too, since both are bytes of the block fixed by the tables."
-- Each is rejected for its vice alone, whatever else it does; and for each there is a program that has it.
-- A program is what the C entries could be: it gives a result for every making, every send and every receive on a block (`Entries` of `entries`). The
-- tables are one that meets the contracts, and any other that meets them gives the same.
use Rattle.std.specs.Prelude.{ℕ, ◌≤◌, ◌<◌, ◌≡◌, List, ◌∷◌, cond, length, replicate, leb, eqb, Err}
use Rattle.bytes_be.specs.Number.{to_bytes}
use Rattle.bytes_be.specs.Part.{part, put_at}
use Rattle.control.specs.declared.MessageType.TheVariants.{Noop}
use Rattle.control.specs.Frame.{type_of}
use Rattle.open.specs.Offer.{Offer}
use Rattle.endpoint.specs.Record.{opening}
use Rattle.endpoint.specs.Block.{load_of}
use Rattle.sending.specs.Calls.{Call}
use Rattle.table.specs.declared.Refusal.TheVariants.{NotAllowed}
use Rattle.table.specs.Table.{send_number}
use Rattle.machine.specs.Good.{Fits}
use Rattle.fbdp.specs.Slots.{slots_in}
use Rattle.entries.specs.Entries.{Entries, SendResult, ReceiveResult, Meets, by_tables}
use Rattle.machine.specs.Programs.{Making}

-- "any two results allowed by it coincide": what a program that meets the contracts gives is what the tables give
pub record AsTables (p : Entries) : Type 0 where
  pub making : (making : Making) (block : List ℕ) → p.makes making block ≡ by_tables.makes making block
  pub calls : (call : Call) → Fits call → (block out : List ℕ) → p.sends call block out ≡ by_tables.sends call block out
  pub messages : (s : List ℕ) (pipe : Offer) (block out : List ℕ) → p.receives s pipe block out ≡ by_tables.receives s pipe block out

abbrev pub OnlyTables : Type 0
OnlyTables = (p : Entries) → Meets p → AsTables p

abbrev pub Rejected : Entries → Type 0
Rejected p = Meets p → ⊥

-- "one that refuses everything", by whatever numbers
pub record RefusesEverything (p : Entries) : Type 0 where
  pub refuses_calls : (call : Call) (block out : List ℕ) → (p.sends call block out).number ≡ 0 → ⊥
  pub refuses_messages : (s : List ℕ) (pipe : Offer) (block out : List ℕ) → (p.receives s pipe block out).number ≡ 0 → ⊥

abbrev pub RefusingRejected : Type 0
RefusingRejected = (p : Entries) → RefusesEverything p → Rejected p

-- one that does: each time with this number, and no byte changes
abbrev pub refused_call : ℕ → List ℕ → List ℕ → SendResult
refused_call number block out = record { number = number; count = 0; block = block; out = out }

abbrev pub refusing : ℕ → Entries
refusing number =
    record {
      makes = λ making block. record { number = number; next = block };
      sends = λ call block out. refused_call number block out;
      receives = λ s pipe block out. record { number = number; slots = replicate 16 0; block = block; out = out };
    }

-- "one that always hears NOOP": whatever message it accepts
abbrev pub HearsNoop : Entries → Type 0
HearsNoop p =
    (s : List ℕ) (pipe : Offer) (block out : List ℕ) → (p.receives s pipe block out).number ≡ 0
    → (slots_in (p.receives s pipe block out).slots).message ≡ type_of Noop

abbrev pub HearingNoopRejected : Type 0
HearingNoopRejected = (p : Entries) → HearsNoop p → Rejected p

-- one that does: type-data 0, no ask, and block and output as they were
abbrev pub hearing_noop : Entries
hearing_noop =
    record {
      makes = by_tables.makes;
      sends = by_tables.sends;
      receives = λ s pipe block out. record { number = 0; slots = type_of Noop ∷ replicate 15 0; block = block; out = out };
    }

-- "one that leaves the block untouched"
pub record LeavesBlock (p : Entries) : Type 0 where
  pub after_calls : (call : Call) (block out : List ℕ) → (p.sends call block out).block ≡ block
  pub after_messages : (s : List ℕ) (pipe : Offer) (block out : List ℕ) → (p.receives s pipe block out).block ≡ block

abbrev pub UntouchingRejected : Type 0
UntouchingRejected = (p : Entries) → LeavesBlock p → Rejected p

-- the tables, but for the block: it is made of the number, of the block before and of the one that the tables leave
abbrev pub leaving : (ℕ → List ℕ → List ℕ → List ℕ) → Entries
leaving left =
    record {
      makes = by_tables.makes;
      sends = λ call block out.
          record {
            number = (by_tables.sends call block out).number;
            count = (by_tables.sends call block out).count;
            block = left (by_tables.sends call block out).number block (by_tables.sends call block out).block;
            out = (by_tables.sends call block out).out;
          };
      receives = λ s pipe block out.
          record {
            number = (by_tables.receives s pipe block out).number;
            slots = (by_tables.receives s pipe block out).slots;
            block = left (by_tables.receives s pipe block out).number block (by_tables.receives s pipe block out).block;
            out = (by_tables.receives s pipe block out).out;
          };
    }

-- one that does, and is the tables in all else
abbrev pub untouching : Entries
untouching = leaving (λ number before after. before)

-- "one that opens properly and afterwards only echoes": it does as the tables in phases 0 and 1, and nothing comes of a message afterwards but
-- what is written back, be that the message itself or a confirmation
pub record OpensThenEchoes (p : Entries) : Type 0 where
  pub sends_open : (call : Call) (block out : List ℕ) → (load_of block).phase ≤ opening → p.sends call block out ≡ by_tables.sends call block out
  pub hears-open : (s : List ℕ) (pipe : Offer) (block out : List ℕ) → (load_of block).phase ≤ opening
      → p.receives s pipe block out ≡ by_tables.receives s pipe block out
  pub stays : (s : List ℕ) (pipe : Offer) (block out : List ℕ) → opening < (load_of block).phase → (p.receives s pipe block out).block ≡ block

abbrev pub EchoingRejected : Type 0
EchoingRejected = (p : Entries) → OpensThenEchoes p → Rejected p

-- and one that writes the message itself back is rejected for that alone
abbrev pub WritesBack : Entries → Type 0
WritesBack p = (s : List ℕ) (pipe : Offer) (block out : List ℕ) → opening < (load_of block).phase → (p.receives s pipe block out).out ≡ put_at out 0 s

abbrev pub WritingBackRejected : Type 0
WritingBackRejected = (p : Entries) → WritesBack p → Rejected p

-- one that does both: what it tells is how long the echo is
abbrev pub echo : List ℕ → List ℕ → List ℕ → ReceiveResult
echo s block out = record { number = 0; slots = 0 ∷ 0 ∷ 0 ∷ length s ∷ replicate 12 0; block = block; out = put_at out 0 s }

abbrev pub echoing : Entries
echoing =
    record {
      makes = by_tables.makes;
      sends = λ call block out.
          cond (leb (load_of block).phase opening) (by_tables.sends call block out) (refused_call (send_number (Err NotAllowed)) block out);
      receives = λ s pipe block out.
          cond (leb (load_of block).phase opening) (by_tables.receives s pipe block out) (echo s block out);
    }

-- "A made-up n or W": after some call or message these bytes of the block are not those of the tables
pub data MadeUp (at count : ℕ) (p : Entries) : Type 0 where
  by_call : (call : Call) → Fits call → (block out : List ℕ)
      → (part (p.sends call block out).block at count ≡ part (by_tables.sends call block out).block at count → ⊥) → MadeUp at count p
  by_message : (s : List ℕ) (pipe : Offer) (block out : List ℕ)
      → (part (p.receives s pipe block out).block at count ≡ part (by_tables.receives s pipe block out).block at count → ⊥)
      → MadeUp at count p

-- "4-5 n, big-endian" and "3 W"; and C-14: "the number in byte 6"
abbrev pub MadeUpRejected : Type 0
MadeUpRejected = (p : Entries) → (MadeUp 4 2 p → Rejected p) × (MadeUp 3 1 p → Rejected p) × (MadeUp 6 1 p → Rejected p)

-- the block after each call or message that is accepted has these bytes at this place
abbrev pub making_up : ℕ → List ℕ → Entries
making_up at bytes = leaving (λ number before after. cond (eqb number 0) (put_at after at bytes) after)

-- no n and no W will do for all calls
abbrev pub counting_as : ℕ → Entries
counting_as n = making_up 4 (to_bytes 2 n)

abbrev pub CountingRejected : Type 0
CountingRejected = (n : ℕ) → Rejected (counting_as n)

abbrev pub awaiting_as : ℕ → Entries
awaiting_as w = making_up 3 (to_bytes 1 w)

abbrev pub AwaitingRejected : Type 0
AwaitingRejected = (w : ℕ) → Rejected (awaiting_as w)

-- each vice is one that a program has
pub record VicesExist : Type 0 where
  pub refuses : (number : ℕ) → (number ≡ 0 → ⊥) → RefusesEverything (refusing number)
  pub hears_noop : HearsNoop hearing_noop
  pub leaves_block : LeavesBlock untouching
  pub opens_then_echoes : OpensThenEchoes echoing
  pub writes_back : WritesBack echoing
