-- "number (8 bytes, little-endian double)": the bits that eight bytes say, and the eight bytes of the double of a whole number.
use Rattle.std.specs.Prelude.{ℕ, cond, List, reverse, length, pos, to_bits}
use Rattle.std.specs.Float.{binary64}
use Rattle.std.specs.Float.Ieee.{of_int}
use Rattle.bytes_be.specs.Part.{holds, part}
use Rattle.bytes_be.specs.Number.{from_bytes, to_bytes}

-- "8 bytes, little-endian": the number that the eight bytes at place `at` say when they are read backwards, or 0 where they do not all
-- lie in s; the double itself is `of_bits binary64` of it
unfoldable pub bits_at : List ℕ → ℕ → ℕ
bits_at s at = cond (holds (length s) at 8) (from_bytes (reverse (part s at 8))) 0

-- "a double made from the whole number": the eight bytes of its bits, the least significant first
unfoldable pub bytes_of : ℕ → List ℕ
bytes_of number = reverse (to_bytes 8 (to_bits binary64 (of_int binary64 (pos number))))
