-- "A reader over a lent bundle hands out its frames one by one. For a bad bundle it answers 10 and hands out none; behind the last frame
-- it answers that there is none": what a reader hands out that is asked again and again.
use Rattle.std.specs.Prelude.{ℕ, zero, suc, ◌+◌, ◌≡◌, List, [], ◌∷◌, ◌++◌, true, false, ◌&&◌, length, replicate, Option, Some, None, Result, Ok, Err}
use Rattle.std.specs.Borrow.{Bor}
use Rattle.bytes_be.specs.Part.{tabulate, part_at}
use Rattle.bundle.specs.declared.BadBundle.{BadBundle}
use Rattle.bytes_be.specs.declared.Place.{Place}
use Rattle.bundle.specs.Reading.{count_of, counted, good, place_of, frame_of, frames_of}
use Rattle.bundle.specs.Writing.{bundle_of, lengths_fit}
use Rattle.frames.specs.declared.Reader.{Reader}
use Rattle.frames.specs.Frames.{handed_at, begun_over, NextAnswer}

-- what is handed out to one who asks so often, from a position on
unfoldable pub handed_out : List ℕ → ℕ → ℕ → List (Result (Option Place) BadBundle)
handed_out bundle position zero = []
handed_out bundle position (suc often) =
    (handed_at bundle position).frame ∷ handed_out bundle (handed_at bundle position).position often

-- the bytes of each frame that was handed out
unfoldable pub frames_in : List ℕ → List (Result (Option Place) BadBundle) → List (List ℕ)
frames_in bundle [] = []
frames_in bundle (Ok (Some place) ∷ rest) = part_at bundle place ∷ frames_in bundle rest
frames_in bundle (Ok None ∷ rest) = frames_in bundle rest
frames_in bundle (Err bad ∷ rest) = frames_in bundle rest

-- a good bundle: each frame once and in order, and then for ever that there is none
abbrev pub OneByOne : Type 0
OneByOne =
    (bundle : List ℕ) → good bundle ≡ true → (more : ℕ)
    → handed_out bundle 0 (count_of bundle + more) ≡ tabulate 0 (count_of bundle) (λ k. Ok (Some (place_of bundle k))) ++ replicate more (Ok None)

-- a bad bundle: the error `BadBundle` each time, whose `frame_number` is 10, and no frame, ever
abbrev pub BadEachTime : Type 0
BadEachTime = (bundle : List ℕ) → good bundle ≡ false → (position often : ℕ) → handed_out bundle position often ≡ replicate often (Err (record {}))

-- any bundle, asked any number of times: the frames by their index, from 0 on
abbrev pub ByIndex : Type 0
ByIndex = (bundle : List ℕ) (often : ℕ) → handed_out bundle 0 often ≡ tabulate 0 often (frame_of bundle)

-- the bytes handed out are the frames of a good bundle
abbrev pub HandsOutFrames : Type 0
HandsOutFrames =
    (bundle : List ℕ) → good bundle ≡ true → (more : ℕ) → frames_in bundle (handed_out bundle 0 (count_of bundle + more)) ≡ frames_of bundle

-- and where frames can be written, these frames are handed out of their bundle
abbrev pub HandsOutWritten : Type 0
HandsOutWritten =
    (frames : List (List ℕ)) → counted (length frames) && lengths_fit frames ≡ true → (more : ℕ)
    → frames_in (bundle_of frames) (handed_out (bundle_of frames) 0 (length frames + more)) ≡ frames

-- a reader that is asked again and again: what it handed out, and what it is then
abbrev pub Asked : Reader → List (Result (Option Place) BadBundle) → Reader → Type 0
Asked before [] after = after ≡ before
Asked before (frame ∷ rest) after = (next : Reader) × NextAnswer before frame next × Asked next rest after

-- every run of calls hands out just that, and leaves the reader over its bundle at as many frames as it handed out
abbrev pub AskedByCalls : Type 0
AskedByCalls =
    (bundle : Bor (List ℕ)) (frames : List (Result (Option Place) BadBundle)) (after : Reader) → Asked (begun_over bundle) frames after
    → (frames ≡ handed_out bundle.now 0 (length frames))
    × (after ≡ record { bundle = bundle; position = length (frames_in bundle.now frames) })
