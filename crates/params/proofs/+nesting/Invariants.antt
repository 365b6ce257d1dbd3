-- The check of a Value, an entry, a Struct and a list meets its contract: siblings by a loop, nesting by calls with fewer levels left.
-- Assumes nothing.
use Prim.Native.Nat.{◌+◌, ◌*◌}
use mathlib.Core.Path.{◌≡◌}
use Rattle.wire.specs.Fields.{fields_left}
use Rattle.params.specs.Message.{walk}
use Rattle.params.specs.Rules.{value_field, value_move, value_done, value_check, entry_field, entry_move, entry_done, entry_check, item_judge, item_move, item_done, items_check, inside}
use Rattle.params.proofs.+nesting.Given as goal

abbrev pub invariant-check_entry-loop-read : goal.invariant-check_entry-loop-read
invariant-check_entry-loop-read l =
    entry_check (inside l.levels l.s) l.s l.from l.tag l.start l.to
    ≡ walk (entry_field (inside l.levels l.s) l.s l.from l.tag) entry_move (entry_done l.s l.from l.tag l.to) (fields_left l.read-iterator) l.seen

abbrev pub invariant-check_items-loop-read : goal.invariant-check_items-loop-read
invariant-check_items-loop-read l =
    items_check (inside l.levels l.s) l.s l.list l.from l.to
    ≡ walk (item_judge (inside l.levels l.s) l.s l.list l.from) item_move item_done (fields_left l.read-iterator) tt

abbrev pub invariant-check_value-loop-read : goal.invariant-check_value-loop-read
invariant-check_value-loop-read l =
    value_check (inside l.levels l.s) l.s l.from l.to
    ≡ walk (value_field (inside l.levels l.s) l.s) value_move (value_done l.to) (fields_left l.read-iterator) l.held

abbrev pub decreases-value_field : goal.decreases-value_field
decreases-value_field l = 8 * l.levels

abbrev pub decreases-check_value : goal.decreases-check_value
decreases-check_value l = 8 * l.levels + 1

abbrev pub decreases-entry_field : goal.decreases-entry_field
decreases-entry_field l = 8 * l.levels + 2

abbrev pub decreases-check_entry : goal.decreases-check_entry
decreases-check_entry l = 8 * l.levels + 3

abbrev pub decreases-item_field : goal.decreases-item_field
decreases-item_field l = 8 * l.levels + 4

abbrev pub decreases-check_items : goal.decreases-check_items
decreases-check_items l = 8 * l.levels + 5
