-- `double::limit_of` meets its contract: each test that fails rules a limit out, and equal bits are those of the same double.
-- Assumes nothing.
use lib.Ieee.{of_bits, neg}
use lib.Ieee.Bits.{is_true}
use denote.Floats.{passes}
use Rattle.double.proofs.Patterns.{whole_no_nan, above_no_nan}
use Rattle.double.proofs.Limits.{truncates_ends, limit_far, limit_small, limit_large, limit_lost, limit_same_bits}
use Rattle.std.proofs.Common.{rules}
use Rattle.double.proofs.limit_of.Goals as goal

pub returns-then-not-truncates : goal.returns-then-not-truncates
unfolding of_bits neg
returns-then-not-truncates c = limit_far _ (c.if-not-truncates.true)

pub truncating_f64_to_u64-truncated-requires : goal.truncating_f64_to_u64-truncated-requires
unfolding of_bits neg
truncating_f64_to_u64-truncated-requires c =
    let ends = truncates_ends _ c.if-not-truncates.false in
    record { lower_bound = ends.0; upper_bound = ends.1 }

pub returns-then-truncated-lt1000000 : goal.returns-then-truncated-lt1000000
returns-then-truncated-lt1000000 c = limit_small _ (passes _ c.well_formed.0.1) _ c.truncating_f64_to_u64-truncated.ensures (search rules)

pub returns-then-truncated-gt50000000 : goal.returns-then-truncated-gt50000000
returns-then-truncated-gt50000000 c = limit_large _ (passes _ c.well_formed.0.1) _ c.truncating_f64_to_u64-truncated.ensures (search rules)

pub float_to_bits-number : goal.float_to_bits-number
float_to_bits-number c = whole_no_nan _ (search rules)

pub float_to_bits-double : goal.float_to_bits-double
unfolding of_bits neg
float_to_bits-double c = above_no_nan _ _ (is_true _ (truncates_ends _ (c.if-not-truncates.false)).0)

pub returns-then-number-double : goal.returns-then-number-double
returns-then-number-double c = limit_same_bits _ _ (passes _ c.well_formed.0.1) (search rules) (search rules) c.if-number-double.true

pub returns : goal.returns
returns c = limit_lost _ (passes _ c.well_formed.0.1) _ c.truncating_f64_to_u64-truncated.ensures c.if-number-double.false
