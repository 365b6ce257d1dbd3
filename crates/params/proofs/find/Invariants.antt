-- `params::find` meets its contract: no entry that the loop has passed has the key. Assumes nothing.
use Rattle.std.specs.Prelude.{None}
use mathlib.Core.Path.{◌≡◌}
use Rattle.wire.specs.Fields.{fields_left}
use Rattle.params.specs.Message.{first_of}
use Rattle.params.specs.Keys.{has_key, value_found, find_in}
use Rattle.params.proofs.find.Given as goal

abbrev pub invariant-loop-read : goal.invariant-loop-read
invariant-loop-read l = find_in l.s l.from l.to l.key ≡ first_of (has_key l.s l.key) (value_found l.s) None (fields_left l.read-iterator)
