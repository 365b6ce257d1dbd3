-- `open::readable` meets its contract: the fields that the loop has passed are good, and kept. Assumes nothing.
use mathlib.Core.Path.{◌≡◌}
use Rattle.wire.specs.Fields.{fields_left}
use Rattle.params.specs.Message.{walk}
use Rattle.open.specs.Frame.{frame_field, keep, kept, frame_done, frame_check, parts_of}
use Rattle.open.proofs.readable.Given as goal

abbrev pub invariant-loop-read : goal.invariant-loop-read
invariant-loop-read l =
    (frame_check l.s l.from l.to ≡ walk (frame_field l.s) keep frame_done (fields_left l.read-iterator) l.parts)
    × (parts_of l.s l.from l.to ≡ kept (fields_left l.read-iterator) l.parts)
