-- A reader hands out the frames of its bundle, each once and in order, and then for ever that there is none; of a bad bundle none, ever.
-- Assumes nothing.
use mathlib.Core.Path.{◌≡◌, refl, sym, ap, ap₂, ◌∙◌}
use mathlib.Core.List.{List, [], ◌∷◌, ◌++◌, append-nil}
use mathlib.Core.Bool.{Bool, true, false}
use Prim.Native.Nat.{ℕ, zero, suc, ◌+◌, ◌≤◌, ◌<◌}
use native.Mathlib.Nat.{zero-add, add-zero, suc-add}
use native.Mathlib.Numerals.{add-one}
use native.Mathlib.Omega.{arith}
use lib.ListN.{length, replicate}
use lib.Dec.{leb, ltb}
use borrow.Author.Tests.{leb-true, ltb-true, ltb-false}
use Rattle.bytes_be.specs.Part.{tabulate, part_at}
use Rattle.bytes_be.proofs.Tests.{both_true}
use Rattle.bundle.specs.declared.BadBundle.{BadBundle}
use Rattle.bytes_be.specs.declared.Place.{Place}
use Rattle.std.specs.Prelude.{Option, Some, None, Result, Ok, Err}
use Rattle.bundle.specs.Reading.{count_of, counted, good, place_of, frame_of, frames_of}
use Rattle.bundle.specs.Writing.{bundle_of, lengths_fit}
use Rattle.bundle.proofs.Sums.{frame_there, frame_behind, frame_told, good_told}
use Rattle.bundle.proofs.Round.{count_back, good_back, frames_back}
use Rattle.frames.specs.declared.Handed.{Handed}
use Rattle.frames.specs.declared.Reader.{Reader}
use Rattle.frames.specs.Frames.{moved_by, handed_at, handed_by, NextAnswer}
use Rattle.frames.specs.OneByOne.{handed_out, frames_in, OneByOne, BadEachTime, ByIndex, HandsOutFrames, HandsOutWritten, Asked, AskedByCalls}

-- a frame is handed out at the first sixteen positions alone
pub among_sixteen : (s : List ℕ) (position : ℕ) {place : Place} → frame_of s position ≡ Ok (Some place) → position < 16
among_sixteen s position e =
    let told = frame_told s position e in
    omega (arith, told.1, (good_told s told.0).few)

-- a function that has one value from a number on
same_from : (f : ℕ → Result (Option Place) BadBundle) (frame : Result (Option Place) BadBundle) (first count : ℕ) → ((i : ℕ) → first ≤ i → f i ≡ frame) → tabulate first count f ≡ replicate count frame
same_from f frame first zero all = refl
same_from f frame first (suc count) all = ap₂ ◌∷◌ (all first (omega arith)) (same_from f frame (suc first) count (λ i h. all i (omega arith)))

module _ (s : List ℕ) where
  -- one answer, and the others from the position afterwards
  handed_first : (position often : ℕ) {handed : Handed} → handed_at s position ≡ handed →
      handed_out s position (suc often) ≡ handed.frame ∷ handed_out s handed.position often
  unfolding handed_out
  handed_first position often e = ap (λ (h : Handed). h.frame ∷ handed_out s h.position often) e

  -- a reader that stays at its position answers the same for ever
  same_for_ever : (position : ℕ) (frame : Result (Option Place) BadBundle) → handed_at s position ≡ record { frame = frame; position = position } →
      (often : ℕ) → handed_out s position often ≡ replicate often frame
  unfolding handed_out
  same_for_ever position frame stays zero = refl
  same_for_ever position frame stays (suc often) =
      handed_first position often stays ∙ ap (λ (rest : List (Result (Option Place) BadBundle)). frame ∷ rest) (same_for_ever position frame stays often)

  module _ (bad : good s ≡ false) where
    frame_bad : (index : ℕ) → frame_of s index ≡ Err (record {})
    unfolding frame_of
    frame_bad index = simp bad

    bad_stays : (position : ℕ) → handed_at s position ≡ record { frame = Err (record {}); position = position }
    unfolding handed_at
    bad_stays position = simp (frame_bad position)

    bad_for_ever : (position often : ℕ) → handed_out s position often ≡ replicate often (Err (record {}))
    bad_for_ever position often = same_for_ever position (Err (record {})) (bad_stays position) often

    bad_by_index : (often : ℕ) → handed_out s 0 often ≡ tabulate 0 often (frame_of s)
    bad_by_index often = bad_for_ever 0 often ∙ sym (same_from (frame_of s) (Err (record {})) 0 often (λ i h. frame_bad i))

  module _ (g : good s ≡ true) where
    handed_there : (position : ℕ) → position < count_of s → handed_at s position ≡ record { frame = Ok (Some (place_of s position)); position = suc position }
    unfolding handed_at
    handed_there position there = simp (frame_there s g position there, add-one)

    behind_stays : (position : ℕ) → count_of s ≤ position → handed_at s position ≡ record { frame = Ok None; position = position }
    unfolding handed_at
    behind_stays position behind = simp (frame_behind s g position behind)

    behind_for_ever : (position : ℕ) → count_of s ≤ position → (often : ℕ) → handed_out s position often ≡ replicate often (Ok None)
    behind_for_ever position behind often = same_for_ever position (Ok None) (behind_stays position behind) often

    -- from any position on, all frames that are left
    left_one_by_one : (position left : ℕ) → position + left ≡ count_of s → (more : ℕ) →
        handed_out s position (left + more) ≡ tabulate position left (λ k. Ok (Some (place_of s k))) ++ replicate more (Ok None)
    left_one_by_one position zero e more = ap (handed_out s position) (zero-add more) ∙ behind_for_ever position (omega arith) more
    left_one_by_one position (suc left) e more =
        ap (handed_out s position) (suc-add left more)
        ∙ handed_first position (left + more) (handed_there position (omega arith))
        ∙ ap (λ (rest : List (Result (Option Place) BadBundle)). Ok (Some (place_of s position)) ∷ rest) (left_one_by_one (suc position) left (omega arith) more)

    good_by_index : (position often : ℕ) → handed_out s position often ≡ tabulate position often (frame_of s)
    unfolding handed_out
    good_by_index position zero = refl
    good_by_index position (suc often) = go (ltb position (count_of s)) refl (good_by_index (suc position) often)
      where
        go : (t : Bool) → ltb position (count_of s) ≡ t → handed_out s (suc position) often ≡ tabulate (suc position) often (frame_of s) →
            handed_out s position (suc often) ≡ tabulate position (suc often) (frame_of s)
        go true e rest =
            let there : position < count_of s = ltb-true _ _ e in
            handed_first position often (handed_there position there) ∙ ap₂ ◌∷◌ (sym (frame_there s g position there)) rest
        go false e rest =
            let behind : count_of s ≤ position = ltb-false _ _ e in
            behind_for_ever position behind (suc often)
            ∙ sym (same_from (frame_of s) (Ok None) position (suc often) (λ i h. frame_behind s g i (omega arith)))

  -- the bytes of what is handed out

  frames-in : (first count : ℕ) (rest : List (Result (Option Place) BadBundle)) →
      frames_in s (tabulate first count (λ k. Ok (Some (place_of s k))) ++ rest) ≡ tabulate first count (λ k. part_at s (place_of s k)) ++ frames_in s rest
  unfolding frames_in
  frames-in first zero rest = refl
  frames-in first (suc count) rest = ap (λ (l : List (List ℕ)). part_at s (place_of s first) ∷ l) (frames-in (suc first) count rest)

  none_in : (more : ℕ) → frames_in s (replicate more (Ok None)) ≡ []
  unfolding frames_in
  none_in zero = refl
  none_in (suc more) = none_in more

pub one_by_one : OneByOne
one_by_one s g more = left_one_by_one s g 0 (count_of s) (zero-add (count_of s)) more

pub bad_each_time : BadEachTime
bad_each_time s bad position often = bad_for_ever s bad position often

pub by_index : ByIndex
by_index s often = go (good s) refl
  where
    go : (t : Bool) → good s ≡ t → handed_out s 0 often ≡ tabulate 0 often (frame_of s)
    go true g = good_by_index s g 0 often
    go false bad = bad_by_index s bad often

pub hands_out_frames : HandsOutFrames
unfolding frames_of
hands_out_frames s g more =
    ap (frames_in s) (one_by_one s g more) ∙ frames-in s 0 (count_of s) (replicate more (Ok None)) ∙ simp (none_in s more, append-nil)

pub hands_out_written : HandsOutWritten
hands_out_written frames can more =
    let made = both_true (counted (length frames)) (lengths_fit frames) can in
    let range = both_true (leb 1 (length frames)) (leb (length frames) 16) made.0 in
    let few : length frames ≤ 16 = leb-true _ _ range.1 in
    let s : List ℕ = bundle_of frames in
    ap (λ (count : ℕ). frames_in s (handed_out s 0 (count + more))) (sym (count_back frames few made.1))
    ∙ hands_out_frames s (good_back frames few made.1 (leb-true _ _ range.0)) more
    ∙ frames_back frames few made.1

asked_from : (frames : List (Result (Option Place) BadBundle)) (before after : Reader) → Asked before frames after → frames ≡ handed_out before.bundle.now before.position (length frames)
unfolding handed_out
asked_from [] before after calls = refl
asked_from (frame ∷ rest) before after calls =
    ap₂ ◌∷◌ calls.1.handed
    (asked_from rest calls.0 after calls.2 ∙ ap (λ (r : Reader). handed_out r.bundle.now r.position (length rest)) calls.1.left)

-- a frame that is handed out is one more, and nothing else moves a reader
counted_on : (s : List ℕ) (frame : Result (Option Place) BadBundle) (rest : List (Result (Option Place) BadBundle)) (position : ℕ) →
    moved_by frame position + length (frames_in s rest) ≡ position + length (frames_in s (frame ∷ rest))
unfolding frames_in
counted_on s (Ok (Some place)) rest position = omega arith
counted_on s (Ok None) rest position = refl
counted_on s (Err bad) rest position = refl

moved_on : (before : Reader) {frame : Result (Option Place) BadBundle} {next : Reader} → NextAnswer before frame next → (handed_by before).position ≡ moved_by frame before.position
unfolding handed_at
moved_on before answer = ap (λ (handed : Result (Option Place) BadBundle). moved_by handed before.position) (sym answer.handed)

-- a reader over the same bundle at another position
abbrev at : Reader → ℕ → Reader
at reader position = record { bundle = reader.bundle; position = position }

left_from : (frames : List (Result (Option Place) BadBundle)) (before after : Reader) → Asked before frames after →
    after ≡ at before (before.position + length (frames_in before.bundle.now frames))
unfolding frames_in
left_from [] before after calls = calls ∙ ap (at before) (sym (add-zero before.position))
left_from (frame ∷ rest) before after calls =
    left_from rest calls.0 after calls.2
    ∙ ap (λ (reader : Reader). at reader (reader.position + length (frames_in reader.bundle.now rest))) calls.1.left
    ∙ ap (λ (position : ℕ). at before (position + length (frames_in before.bundle.now rest))) (moved_on before calls.1)
    ∙ ap (at before) (counted_on before.bundle.now frame rest before.position)

pub asked_by_calls : AskedByCalls
asked_by_calls bundle frames after calls =
    (asked_from frames _ after calls, left_from frames _ after calls ∙ ap (λ (position : ℕ). record { bundle = bundle; position = position }) (zero-add (length (frames_in bundle.now frames))))
