-- `bytes_be::number_of` meets its contract. The invariant of its loop: n is the number that the bytes so far say, which so many bytes can hold.
-- Assumes nothing.
use mathlib.Core.Path.{◌≡◌}
use Prim.Native.Nat.{◌^◌, ◌<◌}
use Rattle.bytes_be.specs.Part.{part}
use Rattle.bytes_be.specs.Number.{from_bytes}
use Rattle.bytes_be.proofs.number_of.Given as goal

abbrev pub invariant-loop-byte : goal.invariant-loop-byte
invariant-loop-byte l = (l.n ≡ from_bytes (part l.bytes 0 l.byte-index)) × (l.n < 256 ^ l.byte-index)
