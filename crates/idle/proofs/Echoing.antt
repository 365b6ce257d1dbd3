-- A program that opens properly and afterwards only echoes does not give what the tables give, nor does one that writes the message itself back.
-- Assumes nothing.
use mathlib.Core.Path.{◌≡◌, ap}
use mathlib.Core.List.{List}
use mathlib.Core.Bool.{true}
use Prim.Native.Nat.{ℕ, ◌<◌}
use native.Mathlib.Omega.{arith}
use lib.ListN.{get_or}
use Rattle.bytes_be.specs.Part.{put_at}
use Rattle.endpoint.specs.Record.{opening, offer}
use Rattle.entries.specs.Entries.{Entries, ReceiveResult, Meets, by_tables}
use Rattle.idle.specs.Idle.{EchoingRejected, WritingBackRejected}
use Rattle.idle.proofs.Witnesses.{tables_give, output, message, offers, hears_agreed, sends_noop}
use Rattle.idle.proofs.Witnesses.{hears_noop}
use Rattle.idle.proofs.Idle.{only_tables}

-- a program that meets the contracts takes each step behind the opening as the tables do
module _ {p : Entries} (meets : Meets p) where
  hears_agreed_alike : hears_agreed p ≡ hears_agreed by_tables
  hears_agreed_alike = (only_tables p meets).messages _ _ _ _

  hears_noop_alike : hears_noop p ≡ hears_noop by_tables
  hears_noop_alike = (only_tables p meets).messages _ _ _ _

-- the phases behind the opening
behind_opening : (phase : ℕ) → phase ≡ offer → opening < phase
behind_opening phase is = omega (arith, is)

pub echoing_rejected : EchoingRejected
echoing_rejected p echoes meets =
    let vice : (hears_agreed p).block ≡ (offers 1 by_tables).block = echoes.stays _ _ _ _ (behind_opening _ tables_give.offering) in
    let alike = ap (λ (result : ReceiveResult). get_or result.block 2 0) (hears_agreed_alike meets) in
    absurd (omega (arith, ap (λ (block : List ℕ). get_or block 2 0) vice, alike, tables_give.phase_offering, tables_give.phase_agreed))

pub writing_back_rejected : WritingBackRejected
writing_back_rejected p writes meets =
    let vice : (hears_noop p).out ≡ put_at output 0 (message (sends_noop true by_tables)) = writes _ _ _ _
    (behind_opening _ tables_give.offer_heard) in
    let alike = ap (λ (result : ReceiveResult). get_or result.out 11 0) (hears_noop_alike meets) in
    absurd (omega (arith, ap (λ (out : List ℕ). get_or out 11 0) vice, alike, tables_give.flags_sent, tables_give.flags_replied))
