-- A program that makes up n, W or the count of unconfirmed reports does not give what the tables give. Assumes nothing.
use mathlib.Core.Path.{◌≡◌, ◌∙◌, ap, refl, sym}
use mathlib.Core.List.{List, [], ◌∷◌}
use Prim.Native.Nat.{ℕ}
use native.Mathlib.Omega.{arith}
use lib.ListN.{get_or, length}
use Rattle.bytes_be.specs.Number.{to_bytes}
use Rattle.bytes_be.specs.Part.{part}
use Rattle.bytes_be.proofs.Parts.{part_put}
use Rattle.sending.specs.Calls.{Call}
use Rattle.machine.specs.Good.{Fits}
use Rattle.entries.specs.Entries.{Entries, SendResult, ReceiveResult, Meets, by_tables}
use Rattle.idle.specs.Idle.{MadeUp, by_call}
use Rattle.idle.specs.Idle.{by_message, MadeUpRejected, making_up, CountingRejected, AwaitingRejected, Rejected}
use Rattle.idle.proofs.Witnesses.{BytesLeft, tables_give}
use Rattle.idle.proofs.Idle.{only_tables}

-- bytes of the block that the tables leave
made_up_rejected_at : (at count : ℕ) (p : Entries) → MadeUp at count p → Rejected p
made_up_rejected_at at count p (by_call call fits block out other) meets =
    other (ap (λ (result : SendResult). part result.block at count) ((only_tables p meets).calls call fits block out))
made_up_rejected_at at count p (by_message s pipe block out other) meets =
    other (ap (λ (result : ReceiveResult). part result.block at count) ((only_tables p meets).messages s pipe block out))

pub made_up_rejected : MadeUpRejected
made_up_rejected p = (made_up_rejected_at 4 2 p, made_up_rejected_at 3 1 p, made_up_rejected_at 6 1 p)

-- where the tables accept a call, a program that makes up these bytes and meets the contracts makes up the bytes that the tables leave
made_up_is : (at : ℕ) (made bytes : List ℕ) (call : Call) (block out : List ℕ) → Fits call → BytesLeft (by_tables.sends call block out) at bytes
    → length made ≡ length bytes → Meets (making_up at made) → made ≡ bytes
made_up_is at made bytes call block out fits left long meets =
    let stands : part ((making_up at made).sends call block out).block at (length made) ≡ made = rw left.accepts
    (part_put _ at made (omega (arith, long, left.holds))) in
    let alike = ap (λ (result : SendResult). part result.block at (length made))
    ((only_tables (making_up at made) meets).calls call fits block out) in
    sym stands ∙ alike ∙ rw long left.there

-- and no bytes are those of two calls that leave different ones
pub counting_rejected : CountingRejected
unfolding to_bytes
counting_rejected n meets =
    let one = made_up_is 4 (to_bytes 2 n) (0 ∷ 1 ∷ []) _ _ _ (omega arith) tables_give.one_offered refl meets in
    let two = made_up_is 4 (to_bytes 2 n) (0 ∷ 2 ∷ []) _ _ _ (omega arith) tables_give.two_offered refl meets in
    absurd (omega (arith, ap (λ (bytes : List ℕ). get_or bytes 1 0) (sym one ∙ two)))

pub awaiting_rejected : AwaitingRejected
unfolding to_bytes
awaiting_rejected w meets =
    let none = made_up_is 3 (to_bytes 1 w) (0 ∷ []) _ _ _ (omega arith) tables_give.none_awaited refl meets in
    let one = made_up_is 3 (to_bytes 1 w) (1 ∷ []) _ _ _ (omega arith) tables_give.one_awaited refl meets in
    absurd (omega (arith, ap (λ (bytes : List ℕ). get_or bytes 0 0) (sym none ∙ one)))
