-- `double::double_of` meets its contract: the patterns above that of the infinity, and no other, are NaN.
-- Assumes nothing.
use lib.Ieee.{div, of_bits}
use Rattle.double.proofs.Patterns.{nan_above, no_nan_up_to}
use Rattle.std.proofs.Common.{rules}
use Rattle.double.proofs.double_of.Goals as goal

pub returns-then-unsigned-gt9218868437227405312 : goal.returns-then-unsigned-gt9218868437227405312
unfolding div of_bits
returns-then-unsigned-gt9218868437227405312 c = nan_above _ c.if-unsigned-gt9218868437227405312.true

pub float_from_bits-result : goal.float_from_bits-result
float_from_bits-result c = no_nan_up_to _ (search rules)
