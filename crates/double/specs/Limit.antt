-- "The limit parameter must be a number that is whole, 1,000,000 to 50,000,000; it is turned into an integer only where nothing is lost."
use Rattle.std.specs.Prelude.{ℕ, Bool, cond, ◌&&◌, nat_le, Float, Option, Some, None}
use Rattle.std.specs.Float.{binary64}
use Rattle.std.specs.Float.Ieee.{in_unsigned, to_unsigned}

-- "a number that is whole": finite, with no fraction, neither negative nor -0, and below 2^32; no NaN and no infinity is one
abbrev pub is_whole : Float → Bool
is_whole double = in_unsigned binary64 32 double

-- "it is turned into an integer": for a double that is whole, the integer that it is
abbrev pub integer_of : Float → ℕ
integer_of double = to_unsigned 32 double

-- "1,000,000 to 50,000,000"
abbrev pub least_limit : ℕ
least_limit = 1000000

abbrev pub most_limit : ℕ
most_limit = 50000000

abbrev pub in_limits : ℕ → Bool
in_limits number = nat_le least_limit number && nat_le number most_limit

-- "only where nothing is lost": the limit that a double says; the double of its integer is that double again (`limit_exact`)
unfoldable pub limit_of : Float → Option ℕ
limit_of double = cond (is_whole double && in_limits (integer_of double)) (Some (integer_of double)) None
