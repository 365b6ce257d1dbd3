-- "Facts about big-endian numbers are proved once for any width": the number that bytes say, the bytes of a number, a number at a place.
use Rattle.std.specs.Prelude.{ℕ, zero, suc, ◌+◌, ◌*◌, ◌/◌, ◌%◌, List, [], ◌∷◌, ◌++◌, cond, length}
use Rattle.bytes_be.specs.Part.{holds, part}

-- the number that bytes say behind those that said n: each byte counts what stands before it 256 times
unfoldable pub from_bytes_behind : ℕ → List ℕ → ℕ
from_bytes_behind n [] = n
from_bytes_behind n (b ∷ rest) = from_bytes_behind (n * 256 + b) rest

-- the number that bytes say, the most significant first
unfoldable pub from_bytes : List ℕ → ℕ
from_bytes bytes = from_bytes_behind 0 bytes

-- the last `width` bytes of a number, the most significant first
unfoldable pub to_bytes : ℕ → ℕ → List ℕ
to_bytes zero n = []
to_bytes (suc width) n = to_bytes width (n / 256) ++ (n % 256 ∷ [])

-- the number that the `width` bytes at place `at` say, or 0 where they do not all lie in s
unfoldable pub number_at : ℕ → List ℕ → ℕ → ℕ
number_at width s at = cond (holds (length s) at width) (from_bytes (part s at width)) 0
