-- `params::place_in` meets its contract: no field that the loop has passed has the number. Assumes nothing.
use mathlib.Core.Path.{◌≡◌}
use Rattle.wire.specs.Fields.{place_of, fields_of}
use Rattle.wire.specs.Fields.{fields_left}
use Rattle.params.specs.Message.{first_of, has_number, nowhere, place_in}
use Rattle.params.proofs.place_in.Given as goal

abbrev pub invariant-loop-read : goal.invariant-loop-read
invariant-loop-read l =
    place_in l.number (fields_of l.s l.from l.to) ≡ first_of (has_number l.number) place_of nowhere (fields_left l.read-iterator)
