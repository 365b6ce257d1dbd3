-- How long a bundle is, and what its writers must leave, from the writes that they made. Assumes nothing.
use mathlib.Core.Path.{◌≡◌, refl, sym, ap, ◌∙◌}
use mathlib.Core.List.{List, [], ◌∷◌, ◌++◌, append-nil, flat_map, flatten}
use mathlib.Core.Bool.{Bool, true, false, ◌&&◌, cond}
use Prim.Native.Nat.{ℕ, ◌+◌, ◌*◌, ◌^◌, ◌≤◌, ◌<◌}
use native.Mathlib.Omega.{arith}
use lib.ListN.{length, length-append}
use borrow.Author.Tests.{lt-ltb, le-ltb, le-leb, lt-leb, leb-false}
use Rattle.bytes_be.specs.Part.{holds, put_at}
use Rattle.bytes_be.specs.Number.{to_bytes}
use Rattle.bytes_be.proofs.Parts.{put_then, put_none}
use Rattle.bytes_be.proofs.Numbers.{length_to_bytes}
use Rattle.bundle.specs.Reading.{counted}
use Rattle.bundle.specs.Writing.{length_bytes, bundle_of, head_of, lengths_fit, writable, Written}

pub length_lengths : (frames : List (List ℕ)) → length (flat_map length_bytes frames) ≡ 4 * length frames
unfolding flat_map
length_lengths [] = refl
length_lengths (f ∷ rest) =
    length-append (length_bytes f) (flat_map length_bytes rest) ∙ omega (arith, length_to_bytes 4 (length f), length_lengths rest)

-- the contents of a bundle, in front of its bodies
abbrev pub contents : List (List ℕ) → List ℕ
contents frames = to_bytes 2 (length frames) ++ flat_map length_bytes frames

pub length_contents : (frames : List (List ℕ)) → length (contents frames) ≡ 2 + 4 * length frames
length_contents frames =
    length-append (to_bytes 2 (length frames)) (flat_map length_bytes frames)
    ∙ omega (arith, length_to_bytes 2 (length frames), length_lengths frames)

pub length_bundle : (frames : List (List ℕ)) → length (bundle_of frames) ≡ 2 + 4 * length frames + length (flatten frames)
unfolding bundle_of
length_bundle frames = length-append (contents frames) (flatten frames) ∙ omega (arith, length_contents frames)

module _ (frames : List (List ℕ)) (out : List ℕ) where
  -- the frames make a bundle, and there is room for it
  pub wrote : (n : ℕ) (after : List ℕ) → counted (length frames) && lengths_fit frames ≡ true → length (bundle_of frames) ≡ n → n ≤ length out →
      after ≡ put_at out 0 (bundle_of frames) → Written frames out n after
  unfolding writable
  wrote n after made e room same =
      let fits : holds (length out) 0 (length (bundle_of frames)) ≡ true = le-leb (0 + length (bundle_of frames)) (length out) (omega arith) in
      record { answered = simp (made, fits) (sym e); left = simp (made, fits) same }

  -- the frames make no bundle
  pub unmade : counted (length frames) && lengths_fit frames ≡ false → Written frames out 0 out
  unfolding writable
  unmade none = record { answered = simp none; left = simp none }

  -- the output has no room
  pub no_room : counted (length frames) && lengths_fit frames ≡ true → length out < length (bundle_of frames) → Written frames out 0 out
  unfolding writable
  no_room made less =
      let none : holds (length out) 0 (length (bundle_of frames)) ≡ false = lt-leb (0 + length (bundle_of frames)) (length out) (omega arith) in
      record { answered = simp (made, none); left = simp (made, none) }

-- what a writer of frames that make a bundle leaves: the bundle at the start of the output, or the output where it has no room
pub left_put : (frames : List (List ℕ)) (out : List ℕ) {count : ℕ} {after : List ℕ} → counted (length frames) && lengths_fit frames ≡ true →
    Written frames out count after → after ≡ put_at out 0 (bundle_of frames)
unfolding writable
left_put frames out made written = written.left ∙ simp made (go (holds (length out) 0 (length (bundle_of frames))) refl)
  where
    go : (t : Bool) → holds (length out) 0 (length (bundle_of frames)) ≡ t → cond t (put_at out 0 (bundle_of frames)) out ≡ put_at out 0 (bundle_of frames)
    go true room = refl
    go false less = sym (put_none out 0 (bundle_of frames) (leb-false _ _ less))

module _ (first : List ℕ) (eight : length first ≡ 8) (out : List ℕ) where
  one_is : bundle_of (first ∷ []) ≡ (0 ∷ 1 ∷ 0 ∷ 0 ∷ 0 ∷ 8 ∷ []) ++ first
  unfolding bundle_of to_bytes flat_map flatten
  one_is = simp (eight, append-nil)

  pub one_made : counted 1 && lengths_fit (first ∷ []) ≡ true
  unfolding lengths_fit
  one_made = simp (lt-ltb (length first) (256 ^ 4) (omega arith))

  pub one_long : length (bundle_of (first ∷ [])) ≡ 14
  unfolding flatten
  one_long = simp (length_bundle, append-nil) (omega arith)

  -- the bundle of one frame, in the two writes of its parts
  pub wrote_one : 14 ≤ length out → Written (first ∷ []) out 14 (put_at (put_at out 0 (0 ∷ 1 ∷ 0 ∷ 0 ∷ 0 ∷ 8 ∷ [])) 6 first)
  wrote_one room =
      wrote (first ∷ []) out 14 _ one_made one_long room
      (put_then out 0 (0 ∷ 1 ∷ 0 ∷ 0 ∷ 0 ∷ 8 ∷ []) first 6 refl (omega arith) ∙ ap (put_at out 0) (sym one_is))

  pub no_room_one : length out < 14 → Written (first ∷ []) out 0 out
  no_room_one less = no_room (first ∷ []) out one_made (omega (arith, one_long))

  pub length_front : (size : ℕ) → length (head_of first size) ≡ 18
  unfolding head_of to_bytes
  length_front size = simp length-append (omega arith)

  -- what stands in front of the second frame, in the three writes of its parts
  pub put_head : (size : ℕ) → 18 ≤ length out →
      put_at (put_at (put_at out 0 (0 ∷ 2 ∷ 0 ∷ 0 ∷ 0 ∷ 8 ∷ [])) 6 (to_bytes 4 size)) 10 first ≡ put_at out 0 (head_of first size)
  unfolding head_of to_bytes
  put_head size room =
      let head : List ℕ = 0 ∷ 2 ∷ 0 ∷ 0 ∷ 0 ∷ 8 ∷ [] in
      ap (λ (o : List ℕ). put_at o 10 first) (put_then out 0 head (to_bytes 4 size) 6 refl (omega arith))
      ∙ put_then out 0 (head ++ to_bytes 4 size) first 10 refl (omega arith)

  module _ (second : List ℕ) where
    pub two_is : bundle_of (first ∷ second ∷ []) ≡ head_of first (length second) ++ second
    unfolding bundle_of head_of to_bytes flat_map flatten
    two_is = simp (eight, append-nil)

    pub two_made : length second < 4294967296 → counted 2 && lengths_fit (first ∷ second ∷ []) ≡ true
    unfolding lengths_fit
    two_made small = simp (lt-ltb (length first) (256 ^ 4) (omega arith), lt-ltb (length second) (256 ^ 4) small)

    pub two_long : length (bundle_of (first ∷ second ∷ [])) ≡ 18 + length second
    unfolding flatten
    two_long = simp (length_bundle, append-nil, length-append) (omega arith)

    -- the bundle of two frames, in the two writes of its parts
    pub put_two : 18 + length second ≤ length out → put_at (put_at out 0 (head_of first (length second))) 18 second ≡ put_at out 0 (bundle_of (first ∷ second ∷ []))
    put_two room =
        put_then out 0 (head_of first (length second)) second 18 (omega (arith, length_front (length second))) room
        ∙ ap (put_at out 0) (sym two_is)

    pub wrote_two : length second < 4294967296 → 18 + length second ≤ length out →
        Written (first ∷ second ∷ []) out (18 + length second) (put_at (put_at out 0 (head_of first (length second))) 18 second)
    wrote_two small room = wrote (first ∷ second ∷ []) out (18 + length second) _ (two_made small) two_long room (put_two room)

    pub too_long_two : 4294967296 ≤ length second → Written (first ∷ second ∷ []) out 0 out
    unfolding lengths_fit
    too_long_two large =
        unmade (first ∷ second ∷ []) out (simp (lt-ltb (length first) (256 ^ 4) (omega arith), le-ltb (length second) (256 ^ 4) large))

    pub no_room_two : length second < 4294967296 → length out < 18 + length second → Written (first ∷ second ∷ []) out 0 out
    no_room_two small less = no_room (first ∷ second ∷ []) out (two_made small) (omega (arith, two_long))
