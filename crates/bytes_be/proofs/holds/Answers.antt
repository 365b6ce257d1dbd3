-- `bytes_be::holds` meets its contract: the difference that it compares says what the sum would, and cannot wrap.
-- Assumes nothing.
use mathlib.Core.Path.{sym}
use Prim.Native.Nat.{◌+◌}
use native.Mathlib.Omega.{arith}
use borrow.Author.Tests.{lt-leb}
use Rattle.bytes_be.proofs.Parts.{holds_less}
use Rattle.bytes_be.proofs.holds.Goals as goal

pub returns-then-n-size : goal.returns-then-n-size
returns-then-n-size c =
    let a = c.args in
    sym (lt-leb (a.at + a.size) a.n (omega arith))

pub returns : goal.returns
returns c = holds_less _ _ _ c.if-n-size.false
