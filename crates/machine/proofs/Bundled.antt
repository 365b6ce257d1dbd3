-- A control frame with at most one data frame, as a bundle, is read as it was written. Assumes nothing.
use Rattle.std.specs.Prelude.{Option, Some, None, Ok}
use mathlib.Core.Path.{◌∙◌, ◌≡◌, ap, refl}
use Prim.Native.Nat.{◌+◌, ◌<◌, ◌^◌, ◌-◌, ◌≤◌, suc, ℕ}
use mathlib.Core.List.{flatten, append-nil, List, [], ◌∷◌}
use mathlib.Core.Bool.{false, true}
use native.Mathlib.Omega.{arith}
use lib.ListN.{length, length-append}
use borrow.Author.Tests.{lt-ltb}
use Rattle.bytes_be.specs.declared.Place.{Place}
use Rattle.bytes_be.specs.Part.{part, part_at}
use Rattle.bytes_be.proofs.Tests.{either_way}
use Rattle.bundle.specs.Reading.{contents_of, place_of, start_of, length_of, frame_of}
use Rattle.bundle.specs.Writing.{bundle_of, lengths_fit}
use Rattle.bundle.proofs.Round.{before_back, count_back, frame_back, good_back, handed_back, length_back, none_behind, size_back}
use Rattle.control.specs.declared.MessageType.{MessageType}
use Rattle.control.specs.Frame.{bytes_of, control_byte, signed_of, type_of}
use Rattle.control.proofs.Round.{known_back, length_control, signed_back, version_back}
use Rattle.message.specs.Reading.{bad_flags, bad_frames, body_of, carries, read_as, reading_of}
use Rattle.machine.specs.Round.{message_with}

module _ (message : MessageType) (flags type-data : ℕ) (small : type-data < 256 ^ 2) where
  abbrev control : List ℕ
  control = bytes_of message flags type-data

  module _ (frames : List (List ℕ)) (few : length frames ≤ 1) (fit : lengths_fit frames ≡ true) where
    all_fit : lengths_fit (control ∷ frames) ≡ true
    unfolding lengths_fit
    all_fit = simp (lt-ltb (length control) (256 ^ 4) (omega (arith, length_control message flags type-data)), fit)

    contents_back : contents_of (bundle_of (control ∷ frames)) ≡ Ok (record { count = suc (length frames); control = place_of (bundle_of (control ∷ frames)) 0; size = length (flatten (control ∷ frames)) })
    unfolding contents_of
    contents_back =
        let most : length (control ∷ frames) ≤ 16 = omega arith in
        simp (good_back (control ∷ frames) most all_fit (omega arith), count_back (control ∷ frames) most all_fit, size_back (control ∷ frames) most all_fit)

    control_read : signed_of (part_at (bundle_of (control ∷ frames)) (place_of (bundle_of (control ∷ frames)) 0)) ≡ Ok (record { control_byte = control_byte (type_of message); flags = flags; type_data = type-data })
    control_read = ap signed_of (frame_back (control ∷ frames) (omega arith) all_fit 0 (omega arith)) ∙ signed_back message flags type-data small

    -- a message that 14 and 15 do not refuse
    pub reading_back : bad_flags message flags ≡ false → bad_frames message flags (length frames) ≡ false → reading_of (bundle_of (control ∷ frames)) ≡
        Ok
        (record {
          message = message;
          flags = flags;
          type_data = type-data;
          frames = length frames;
          size = length (flatten (control ∷ frames));
          body = body_of (bundle_of (control ∷ frames)) message flags;
        })
    unfolding reading_of read_as
    reading_back flagged framed =
        let others : suc (length frames) - 1 ≡ length frames = omega arith in
        simp (contents_back, control_read, version_back (type_of message), known_back message, others, flagged, framed)

  -- without a data frame

  pub plain_read : bad_flags message flags ≡ false → bad_frames message flags 0 ≡ false →
      reading_of (bundle_of (control ∷ [])) ≡ Ok (message_with message flags type-data [])
  unfolding lengths_fit body_of flatten
  plain_read flagged framed =
      let eight : length (flatten (control ∷ [])) ≡ 8 = simp append-nil (length_control message flags type-data) in
      let none : frame_of (bundle_of (control ∷ [])) 1 ≡ Ok None = none_behind (control ∷ []) (omega arith) (all_fit [] (omega arith) refl) (omega arith) 1 (omega arith) in
      reading_back [] (omega arith) refl flagged framed ∙ simp (eight, none, either_way {A = Option Place} (carries message flags) None)

  -- with one

  module _ (frame : List ℕ) (short : length frame < 256 ^ 4) where
    abbrev both : List (List ℕ)
    both = control ∷ frame ∷ []

    one_fits : lengths_fit (frame ∷ []) ≡ true
    unfolding lengths_fit
    one_fits = simp (lt-ltb (length frame) (256 ^ 4) short)

    both_fit : lengths_fit both ≡ true
    both_fit = all_fit (frame ∷ []) (omega arith) one_fits

    starts : start_of (bundle_of both) 1 ≡ 18
    unfolding start_of flatten
    starts =
        let front : length (flatten (control ∷ [])) ≡ 8 = simp append-nil (length_control message flags type-data) in
        omega (arith, front, count_back both (omega arith) both_fit, before_back both (omega arith) both_fit 1 (omega arith))

    long : length_of (bundle_of both) 1 ≡ length frame
    long = length_back both (omega arith) both_fit 1 (omega arith)

    frame_place : frame_of (bundle_of both) 1 ≡ Ok (Some (record { at = 18; length = length frame }))
    frame_place = handed_back both (omega arith) both_fit (omega arith) 1 (omega arith) ∙ (λ i. Ok (Some (record { at = starts i; length = long i })))

    pub frame_read : part (bundle_of both) 18 (length frame) ≡ frame
    frame_read = rw (starts, long) at (frame_back both (omega arith) both_fit 1 (omega arith))

    pub framed_read : bad_flags message flags ≡ false → bad_frames message flags 1 ≡ false → carries message flags ≡ true →
        reading_of (bundle_of both) ≡ Ok (message_with message flags type-data (frame ∷ []))
    unfolding body_of flatten
    framed_read flagged framed bears =
        let sum : length (flatten both) ≡ 8 + length frame = simp (append-nil, length-append) (omega (arith, length_control message flags type-data)) in
        reading_back (frame ∷ []) (omega arith) one_fits flagged framed ∙ simp (sum, bears, frame_place)
