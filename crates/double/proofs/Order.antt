-- Laws of eight bytes, the least significant first: the bits that were written are read back, wherever they stand. Assumes nothing.
use Rattle.std.proofs.Common.{◌≡◌, ℕ, ◌+◌, ◌^◌, ◌<◌, ◌≤◌, List, reverse, length, pos, ◌∙◌, arith, take_all, le-leb}
use mathlib.Core.List.{reverse-reverse}
use lib.ListN.{length-reverse}
use lib.Ieee.{binary64, to_bits, of_int}
use Rattle.bytes_be.specs.Part.{part}
use Rattle.bytes_be.specs.Number.{to_bytes}
use Rattle.bytes_be.proofs.Numbers.{length_to_bytes, from_to}
use Rattle.double.specs.Double.{bits_at, bytes_of}

-- where the eight bytes of a bit pattern stand, that pattern is read
pub bits_there : (s : List ℕ) (at v : ℕ) → at + 8 ≤ length s → v < 2 ^ 64 → part s at 8 ≡ reverse (to_bytes 8 v) → bits_at s at ≡ v
unfolding bits_at
bits_there s at v inside small same = simp (le-leb (at + 8) (length s) inside, same, reverse-reverse) (from_to 8 v small)

-- reading the eight bytes that were written gives the bits
pub bits_back : (v : ℕ) → v < 2 ^ 64 → bits_at (reverse (to_bytes 8 v)) 0 ≡ v
bits_back v small =
    let eight : length (reverse (to_bytes 8 v)) ≡ 8 = length-reverse (to_bytes 8 v) ∙ length_to_bytes 8 v in
    bits_there (reverse (to_bytes 8 v)) 0 v (omega arith) small (take_all 8 (reverse (to_bytes 8 v)) (omega arith))

-- a double is eight bytes
pub length_bytes_of : (number : ℕ) → length (bytes_of number) ≡ 8
unfolding bytes_of
length_bytes_of number =
    let bits = to_bits binary64 (of_int binary64 (pos number)) in
    length-reverse (to_bytes 8 bits) ∙ length_to_bytes 8 bits
