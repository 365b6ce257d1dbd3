-- "K5 the double 1,000,000: 00 00 00 00 80 84 2E 41", as it is written and as it is read, and doubles at the edges of the limit.
-- Assumes nothing.
use Rattle.std.specs.Prelude.{Option, Some, None}
use Rattle.std.proofs.Common.{◌≡◌, ℕ, List, [], ◌∷◌, map, refl}
use lib.Ieee.{binary64, of_bits, to_bits, of_int, whole, in_unsigned, to_unsigned}
use Rattle.bytes_be.specs.Number.{to_bytes, from_bytes, from_bytes_behind}
use Rattle.double.specs.Double.{bits_at, bytes_of}
use Rattle.double.specs.Limit.{limit_of}

abbrev pub million : List ℕ
million = 0x00 ∷ 0x00 ∷ 0x00 ∷ 0x00 ∷ 0x80 ∷ 0x84 ∷ 0x2E ∷ 0x41 ∷ []

pub million_written : bytes_of 1000000 ≡ million
unfolding bytes_of to_bytes to_bits of_int
million_written = refl

-- the limit that a bit pattern says
abbrev limit_of_bits : ℕ → Option ℕ
limit_of_bits bits = limit_of (of_bits binary64 bits)

pub million_read : limit_of_bits (bits_at million 0) ≡ Some 1000000
unfolding bits_at from_bytes from_bytes_behind limit_of of_bits whole in_unsigned to_unsigned
million_read = refl

pub most : limit_of_bits 0x4187_D784_0000_0000 ≡ Some 50000000
unfolding limit_of of_bits whole in_unsigned to_unsigned
most = refl

-- 999,999 and 50,000,001, 1,000,000 with a half, -1,000,000, -0, the infinity, a NaN
pub bad-ones :
    map limit_of_bits
    (0x412E_847E_0000_0000 ∷ 0x4187_D784_0800_0000 ∷ 0x412E_8481_0000_0000 ∷ 0xC12E_8480_0000_0000 ∷ 0x8000_0000_0000_0000 ∷ 0x7FF0_0000_0000_0000 ∷ 0x7FF8_0000_0000_0000 ∷ [])
    ≡ None ∷ None ∷ None ∷ None ∷ None ∷ None ∷ None ∷ []
unfolding limit_of of_bits whole in_unsigned to_unsigned
bad-ones = refl
