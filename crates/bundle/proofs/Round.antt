-- Reading a bundle that was written gives back its frames, whatever their number from 1 to 16. Assumes nothing.
use mathlib.Core.Path.{◌≡◌, refl, sym, ap, ap₂, ◌∙◌}
use mathlib.Core.List.{List, [], ◌∷◌, ◌++◌, append_assoc, flat_map, flatten}
use mathlib.Core.Bool.{true, ◌&&◌}
use Prim.Native.Nat.{ℕ, zero, suc, ◌+◌, ◌*◌, ◌-◌, ◌^◌, ◌≤◌, ◌<◌}
use native.Mathlib.Nat.{add-zero, zero-add}
use native.Mathlib.Omega.{arith}
use lib.ListN.{length, get_or, take, length-append}
use lib.Seq.{take-length, ext_get_or}
use lib.Dec.{leb, ltb}
use borrow.Author.Tests.{leb-true, ltb-true, le-leb, eq-eqb}
use Rattle.bytes_be.specs.Part.{tabulate, holds, part, put_at}
use Rattle.bytes_be.specs.Number.{to_bytes}
use Rattle.bytes_be.proofs.Tests.{both_true}
use Rattle.bytes_be.proofs.Parts.{length_tabulate, get_d_tabulate, length_part, part_then, part_put, part_behind, part_inside, part_front}
use Rattle.bytes_be.proofs.Numbers.{Bytes, length_to_bytes, number_is, bytes_there}
use Rattle.bundle.specs.Reading.{count_of, counted, length_of, lengths_before, start_of, place_of, good, size_of, frame_of, frames_of}
use Rattle.std.specs.Prelude.{Some, None, Ok}
use Rattle.bundle.proofs.Sums.{before_suc, before_grows, good_told, contents_inside, body_inside, frame_there, frame_behind}
use Rattle.bundle.proofs.Outputs.{length_lengths, contents, length_contents, length_bundle}
use Rattle.bundle.specs.Writing.{length_bytes, bundle_of, lengths_fit, writable, Written}

-- the lengths, one behind the other

part_lengths : (frames : List (List ℕ)) (k : ℕ) → k < length frames → part (flat_map length_bytes frames) (4 * k) 4 ≡ length_bytes (get_or frames k [])
unfolding flat_map
part_lengths [] k h = absurd (omega arith)
part_lengths (f ∷ rest) zero h = part_front (length_bytes f) (flat_map length_bytes rest) 4 (length_to_bytes 4 (length f))
part_lengths (f ∷ rest) (suc k) h =
    let next : 4 * suc k ≡ 4 + 4 * k = omega arith in
    ap (λ (n : ℕ). part (length_bytes f ++ flat_map length_bytes rest) n 4) next
    ∙ part_behind (length_bytes f) (flat_map length_bytes rest) 4 (4 * k) 4 (length_to_bytes 4 (length f))
    ∙ part_lengths rest k (omega arith)

-- the bodies, one behind the other

bodies_more : (frames : List (List ℕ)) (k : ℕ) → k < length frames →
    length (flatten (take (suc k) frames)) ≡ length (flatten (take k frames)) + length (get_or frames k [])
unfolding flatten
bodies_more [] k h = absurd (omega arith)
bodies_more (f ∷ rest) zero h = length-append f [] ∙ omega arith
bodies_more (f ∷ rest) (suc k) h =
    length-append f (flatten (take (suc k) rest))
    ∙ omega (arith, bodies_more rest k (omega arith), length-append f (flatten (take k rest)))

part_bodies : (frames : List (List ℕ)) (k : ℕ) → k < length frames →
    part (flatten frames) (length (flatten (take k frames))) (length (get_or frames k [])) ≡ get_or frames k []
unfolding flatten
part_bodies [] k h = absurd (omega arith)
part_bodies (f ∷ rest) zero h = part_front f (flatten rest) (length f) refl
part_bodies (f ∷ rest) (suc k) h =
    ap (λ (n : ℕ). part (f ++ flatten rest) n (length (get_or rest k []))) (length-append f (flatten (take k rest)))
    ∙ part_behind f (flatten rest) (length f) (length (flatten (take k rest))) (length (get_or rest k [])) refl
    ∙ part_bodies rest k (omega arith)

fit_at : (frames : List (List ℕ)) (k : ℕ) → lengths_fit frames ≡ true → k < length frames → length (get_or frames k []) < 256 ^ 4
unfolding lengths_fit
fit_at [] k all h = absurd (omega arith)
fit_at (f ∷ rest) zero all h = ltb-true (length f) (256 ^ 4) (both_true (ltb (length f) (256 ^ 4)) (lengths_fit rest) all).0
fit_at (f ∷ rest) (suc k) all h = fit_at rest k (both_true (ltb (length f) (256 ^ 4)) (lengths_fit rest) all).1 (omega arith)

module _ (frames : List (List ℕ)) where
  -- the count in front of the lengths
  count_first : bundle_of frames ≡ to_bytes 2 (length frames) ++ (flat_map length_bytes frames ++ flatten frames)
  unfolding bundle_of
  count_first = append_assoc (to_bytes 2 (length frames)) (flat_map length_bytes frames) (flatten frames)

  module _ (few : length frames ≤ 16) (all : lengths_fit frames ≡ true) where
    pub count_back : count_of (bundle_of frames) ≡ length frames
    unfolding count_of
    count_back =
        number_is 2 (bundle_of frames) 0 (length frames) (omega (arith, length_bundle frames)) (omega arith)
        (rw count_first (part_front (to_bytes 2 (length frames)) _ 2 (length_to_bytes 2 (length frames))))

    pub length_back : (k : ℕ) → k < length frames → length_of (bundle_of frames) k ≡ length (get_or frames k [])
    unfolding length_of
    length_back k h =
        number_is 4 (bundle_of frames) (2 + 4 * k) (length (get_or frames k [])) (omega (arith, length_bundle frames)) (fit_at frames k all h)
        (rw count_first
        (part_behind (to_bytes 2 (length frames)) (flat_map length_bytes frames ++ flatten frames) 2 (4 * k) 4 (length_to_bytes 2 (length frames))
        ∙ part_inside (flat_map length_bytes frames) (flatten frames) (4 * k) 4 (omega (arith, length_lengths frames))
        ∙ part_lengths frames k h))

    pub before_back : (k : ℕ) → k ≤ length frames → lengths_before (bundle_of frames) k ≡ length (flatten (take k frames))
    unfolding lengths_before flatten
    before_back zero h = refl
    before_back (suc k) h = omega (arith, before_back k (omega arith), length_back k h, bodies_more frames k h)

    start_back : (k : ℕ) → k ≤ length frames → start_of (bundle_of frames) k ≡ 2 + 4 * length frames + length (flatten (take k frames))
    unfolding start_of
    start_back k h = omega (arith, count_back, before_back k h)

    -- the bundle's size is that of its frames
    pub size_back : size_of (bundle_of frames) ≡ length (flatten frames)
    unfolding size_of
    size_back = simp count_back (rw (take-length frames) at (before_back (length frames) (omega arith)))

    -- what was written is a good bundle
    pub good_back : 1 ≤ length frames → good (bundle_of frames) ≡ true
    unfolding good
    good_back some =
        let last = rw (take-length frames) at (start_back (length frames) (omega arith)) in
        let ends : start_of (bundle_of frames) (length frames) ≡ length (bundle_of frames) = last ∙ sym (length_bundle frames) in
        simp (count_back, le-leb 1 (length frames) some, le-leb (length frames) 16 few, eq-eqb _ _ ends)

    pub frame_back : (k : ℕ) → k < length frames → part (bundle_of frames) (start_of (bundle_of frames) k) (length_of (bundle_of frames) k) ≡ get_or frames k []
    unfolding bundle_of
    frame_back k h =
        let before : ℕ = length (flatten (take k frames)) in
        let size : ℕ = length (get_or frames k []) in
        simp (start_back k (omega arith), length_back k h)
        (part_behind (contents frames) (flatten frames) (2 + 4 * length frames) before size (length_contents frames) ∙ part_bodies frames k h)

    -- the reader hands out each frame that was written, and none behind the last

    pub handed_back : 1 ≤ length frames → (k : ℕ) → k < length frames → frame_of (bundle_of frames) k ≡ Ok (Some (place_of (bundle_of frames) k))
    handed_back some k h = frame_there (bundle_of frames) (good_back some) k (omega (arith, count_back))

    pub none_behind : 1 ≤ length frames → (k : ℕ) → length frames ≤ k → frame_of (bundle_of frames) k ≡ Ok None
    none_behind some k h = frame_behind (bundle_of frames) (good_back some) k (omega (arith, count_back))

    -- its frames are those that were written
    pub frames_back : frames_of (bundle_of frames) ≡ frames
    unfolding frames_of
    frames_back =
        let f : ℕ → List ℕ = λ k. part (bundle_of frames) (start_of (bundle_of frames) k) (length_of (bundle_of frames) k) in
        let count : ℕ = count_of (bundle_of frames) in
        ext_get_or [] _ frames (length_tabulate f 0 count ∙ count_back)
        (λ k h. let there : k < length frames = omega (arith, length_tabulate f 0 count, count_back) in
        get_d_tabulate f 0 count k [] (omega (arith, count_back)) ∙ ap f (zero-add k) ∙ frame_back k there)

-- the bytes that a writer counted, at the start of the output, are the bundle of its frames
pub message_written : {frames : List (List ℕ)} {before after : List ℕ} {count : ℕ} →
    writable (length before) frames ≡ true → Written frames before count after → part after 0 count ≡ bundle_of frames
unfolding writable
message_written {frames} {before} {after} {count} can written =
    let both = both_true (counted (length frames) && lengths_fit frames) (holds (length before) 0 (length (bundle_of frames))) can in
    let answered : count ≡ length (bundle_of frames) = simp can at written.answered in
    let left : after ≡ put_at before 0 (bundle_of frames) = simp can at written.left in
    ap₂ (λ (l : List ℕ) (n : ℕ). part l 0 n) left answered ∙ part_put before 0 (bundle_of frames) (leb-true _ _ both.1)

-- so that reading what a writer counted gives back the frames that it wrote
pub written_read : {frames : List (List ℕ)} {before after : List ℕ} {count : ℕ} →
    writable (length before) frames ≡ true → Written frames before count after → frames_of (part after 0 count) ≡ frames
unfolding writable
written_read {frames} {before} can written =
    let both = both_true (counted (length frames) && lengths_fit frames) (holds (length before) 0 (length (bundle_of frames))) can in
    let made = both_true (counted (length frames)) (lengths_fit frames) both.0 in
    let range = both_true (leb 1 (length frames)) (leb (length frames) 16) made.0 in
    ap frames_of (message_written can written) ∙ frames_back frames (leb-true _ _ range.1) made.1

-- The other way: a good bundle is the bundle of its frames, so that each good bundle is written in one way alone.

module _ (s : List ℕ) where
  abbrev frame-of : ℕ → List ℕ
  frame-of k = part s (start_of s k) (length_of s k)

  module _ (bytes : Bytes s) (g : good s ≡ true) where
    lengths_there : (i k : ℕ) → i + k ≤ count_of s → flat_map length_bytes (tabulate i k frame-of) ≡ part s (2 + 4 * i) (4 * k)
    unfolding flat_map length_of
    lengths_there i zero h = refl
    lengths_there i (suc k) h =
        let long : length (frame-of i) ≡ length_of s i = length_part s (start_of s i) (length_of s i) (body_inside s g i (omega arith)) in
        let all : 4 + 4 * k ≡ 4 * suc k = omega arith in
        let here : to_bytes 4 (length (frame-of i)) ≡ part s (2 + 4 * i) 4 = ap (to_bytes 4) long ∙ bytes_there 4 s (2 + 4 * i) bytes (contents_inside s g i (omega arith)) in
        ap₂ (λ (a b : List ℕ). a ++ b) here (lengths_there (suc i) k (omega arith))
        ∙ part_then s (2 + 4 * i) 4 (4 * k) (2 + 4 * suc i) (omega arith)
        ∙ ap (part s (2 + 4 * i)) all

    bodies_there : (i k size : ℕ) → i + k ≤ count_of s →
        lengths_before s i + size ≡ lengths_before s (i + k) → flatten (tabulate i k frame-of) ≡ part s (start_of s i) size
    unfolding flatten start_of
    bodies_there i zero size h e =
        let none : size ≡ 0 = omega (arith, rw add-zero at e) in
        simp none
    bodies_there i (suc k) size h e =
        let next : i + suc k ≡ suc i + k = omega arith in
        let rest : lengths_before s (suc i) + (size - length_of s i) ≡ lengths_before s (suc i + k) = omega (arith, rw next at e, before_suc s i, before_grows s (suc i) k) in
        let all : length_of s i + (size - length_of s i) ≡ size = omega (arith, rw next at e, before_suc s i, before_grows s (suc i) k) in
        ap (λ (b : List ℕ). frame-of i ++ b) (bodies_there (suc i) k (size - length_of s i) (omega arith) rest)
        ∙ part_then s (start_of s i) (length_of s i) (size - length_of s i) (start_of s (suc i)) (omega (arith, before_suc s i))
        ∙ ap (part s (start_of s i)) all

    -- what is read, written again, is the same bundle
    pub bundle_back : bundle_of (frames_of s) ≡ s
    unfolding bundle_of frames_of count_of start_of lengths_before
    bundle_back =
        let size : ℕ = lengths_before s (count_of s) in
        let count : to_bytes 2 (length (tabulate 0 (count_of s) frame-of)) ≡ part s 0 2 =
        ap (to_bytes 2) (length_tabulate frame-of 0 (count_of s)) ∙ bytes_there 2 s 0 bytes (omega (arith, (good_told s g).ends)) in
        let place : start_of s 0 ≡ 2 + 4 * count_of s = omega arith in
        let bodies : flatten (tabulate 0 (count_of s) frame-of) ≡ part s (2 + 4 * count_of s) size =
        bodies_there 0 (count_of s) size (omega arith) (zero-add size ∙ ap (lengths_before s) (sym (zero-add (count_of s)))) ∙ ap (λ (k : ℕ). part s k size) place in
        let end : 2 + 4 * count_of s + size ≡ length s = (good_told s g).ends in
        simp (count, lengths_there 0 (count_of s) (omega arith), bodies)
        (ap (λ (l : List ℕ). l ++ part s (2 + 4 * count_of s) size) (part_then s 0 2 (4 * count_of s) 2 refl)
        ∙ part_then s 0 (2 + 4 * count_of s) size (2 + 4 * count_of s) (omega arith)
        ∙ ap (part s 0) end
        ∙ take-length s)
