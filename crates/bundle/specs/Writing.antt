-- A bundle as it is written: "a 2-byte big-endian frame count F (1 to 16), then F 4-byte big-endian lengths, then the bodies in order
-- without gaps".
use Rattle.std.specs.Prelude.{ℕ, ◌^◌, ◌≡◌, Bool, true, ◌&&◌, cond, length, ltb}
use mathlib.Core.List.{List, [], ◌∷◌, ◌++◌, flat_map, flatten}
use Rattle.bytes_be.specs.Part.{holds, put_at}
use Rattle.bytes_be.specs.Number.{to_bytes}
use Rattle.bundle.specs.Reading.{counted}

-- a "4-byte big-endian length"
abbrev pub length_bytes : List ℕ → List ℕ
length_bytes frame = to_bytes 4 (length frame)

-- the count, the lengths, the bodies
unfoldable pub bundle_of : List (List ℕ) → List ℕ
bundle_of frames = to_bytes 2 (length frames) ++ flat_map length_bytes frames ++ flatten frames

-- what stands in front of the second of two frames, if the first has 8 bytes
unfoldable pub head_of : List ℕ → ℕ → List ℕ
head_of first size = to_bytes 2 2 ++ to_bytes 4 8 ++ to_bytes 4 size ++ first

-- whether every length has room in its 4 bytes
unfoldable pub lengths_fit : List (List ℕ) → Bool
lengths_fit [] = true
lengths_fit (frame ∷ rest) = ltb (length frame) (256 ^ 4) && lengths_fit rest

-- whether these frames make a bundle, and an output of n bytes has room for it
unfoldable pub writable : ℕ → List (List ℕ) → Bool
writable n frames = counted (length frames) && lengths_fit frames && holds n 0 (length (bundle_of frames))

-- "An accepted send or reply writes its own bytes from the start of the output and nothing behind them": a writer answers how many bytes
-- it wrote, and leaves them at the start of the output; where it cannot write, it answers 0 and leaves the output as it was
pub record Written (frames : List (List ℕ)) (before : List ℕ) (count : ℕ) (after : List ℕ) : Type 0 where
  pub answered : count ≡ cond (writable (length before) frames) (length (bundle_of frames)) 0
  pub left : after ≡ cond (writable (length before) frames) (put_at before 0 (bundle_of frames)) before
