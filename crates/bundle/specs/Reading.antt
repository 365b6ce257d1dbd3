-- "A transport message of several frames travels as one bundle: a 2-byte big-endian frame count F (1 to 16), then F 4-byte big-endian
-- lengths, then the bodies in order without gaps, ending exactly at the end of the bytes."
use Rattle.std.specs.Prelude.{ℕ, zero, suc, ◌+◌, ◌*◌, List, Bool, ◌&&◌, cond, length, leb, ltb, eqb, Option, Some, None, Result, Ok, Err}
use Rattle.bytes_be.specs.Part.{tabulate, part_at}
use Rattle.bytes_be.specs.Number.{number_at}
use Rattle.bytes_be.specs.declared.Place.{Place}
use Rattle.bundle.specs.declared.Contents.{Contents}
use Rattle.bundle.specs.declared.BadBundle.{BadBundle}
use Rattle.numbered.specs.Numbered.{number_of}

-- "a 2-byte big-endian frame count F"
unfoldable pub count_of : List ℕ → ℕ
count_of s = number_at 2 s 0

-- "(1 to 16)"
abbrev pub counted : ℕ → Bool
counted count = leb 1 count && leb count 16

-- "then F 4-byte big-endian lengths": that of frame k, counted from 0
unfoldable pub length_of : List ℕ → ℕ → ℕ
length_of s k = number_at 4 s (2 + 4 * k)

-- the sum of the lengths in front of that of frame k
unfoldable pub lengths_before : List ℕ → ℕ → ℕ
lengths_before s zero = 0
lengths_before s (suc k) = lengths_before s k + length_of s k

-- "then the bodies in order without gaps": where that of frame k begins, and for k = F where the last one ends
unfoldable pub start_of : List ℕ → ℕ → ℕ
start_of s k = 2 + 4 * count_of s + lengths_before s k

-- "(1 to 16)", "ending exactly at the end of the bytes"
unfoldable pub good : List ℕ → Bool
good s = counted (count_of s) && eqb (start_of s (count_of s)) (length s)

-- where frame k stands
abbrev pub place_of : List ℕ → ℕ → Place
place_of s k = record { at = start_of s k; length = length_of s k }

-- "The size of a message is the sum of its frame lengths."
unfoldable pub size_of : List ℕ → ℕ
size_of s = lengths_before s (count_of s)

-- how many frames a good bundle has, where its control frame stands, and the size of its message
unfoldable pub contents_of : List ℕ → Result Contents BadBundle
contents_of s = cond (good s) (Ok (record { count = count_of s; control = place_of s 0; size = size_of s })) (Err (record {}))

-- by its index: "For a bad bundle it answers 10 and hands out none; behind the last frame it answers that there is none."
unfoldable pub frame_of : List ℕ → ℕ → Result (Option Place) BadBundle
frame_of s k = cond (good s) (cond (ltb k (count_of s)) (Ok (Some (place_of s k))) (Ok None)) (Err (record {}))

-- the frames of a bundle, in order
unfoldable pub frames_of : List ℕ → List (List ℕ)
frames_of s = tabulate 0 (count_of s) (λ k. part_at s (place_of s k))

-- "For a bad bundle it answers 10"
abbrev pub bad_number : BadBundle → ℕ
bad_number bad = 10

-- the number of each answer
abbrev pub contents_number : Result Contents BadBundle → ℕ
contents_number = number_of bad_number

abbrev pub frame_number : Result (Option Place) BadBundle → ℕ
frame_number = number_of bad_number
