-- "A reader over a lent bundle hands out its frames one by one. For a bad bundle it answers 10 and hands out none; behind the last frame
-- it answers that there is none."
use Rattle.std.specs.Prelude.{ℕ, ◌+◌, ◌≡◌, List, Option, Some, None, Result, Ok, Err}
use Rattle.std.specs.Borrow.{Bor}
use Rattle.bundle.specs.Reading.{frame_of}
use Rattle.bundle.specs.declared.BadBundle.{BadBundle}
use Rattle.bytes_be.specs.declared.Place.{Place}
use Rattle.frames.specs.declared.Handed.{Handed}
use Rattle.frames.specs.declared.Reader.{Reader}

-- "one by one": only a frame that is handed out moves the position on
abbrev pub moved_by : Result (Option Place) BadBundle → ℕ → ℕ
moved_by (Ok (Some place)) position = position + 1
moved_by (Ok None) position = position
moved_by (Err bad) position = position

-- what is handed out at a position, and the position afterwards
unfoldable pub handed_at : List ℕ → ℕ → Handed
handed_at bundle position =
    record { frame = frame_of bundle position; position = moved_by (frame_of bundle position) position }

-- "over a lent bundle": a reader that has handed out nothing
abbrev pub begun_over : Bor (List ℕ) → Reader
begun_over bundle = record { bundle = bundle; position = 0 }

-- what a reader hands out next
abbrev pub handed_by : Reader → Handed
handed_by reader = handed_at reader.bundle.now reader.position

-- the next frame is handed out, and the reader is left over the same bundle at the position afterwards
pub record NextAnswer (before : Reader) (frame : Result (Option Place) BadBundle) (after : Reader) : Type 0 where
  pub handed : frame ≡ (handed_by before).frame
  pub left : after ≡ record { bundle = before.bundle; position = (handed_by before).position }
