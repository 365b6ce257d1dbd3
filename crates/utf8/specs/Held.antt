-- What the code holds of the ranges that are due: their number, and the first of them. The others are 80 to BF, whatever the first is.
use Rattle.std.specs.Prelude.{ℕ, zero, suc, List, [], ◌∷◌, cond, Some, None}
use Rattle.std.specs.Prelude.{Option as Prelude·Option}
use Rattle.std.proofs.Math.Option.{Option, none, some}
use Rattle.utf8.specs.Text.{Range, ◌‥◌, within, table, due_behind}
use Rattle.utf8.specs.declared.Due.{Due}

-- the ranges that are due, where this many bytes are and the next of them lies from `from` to `to`
unfoldable pub ranges : ℕ → ℕ → ℕ → List Range
ranges zero from to = []
ranges (suc more) from to = from ‥ to ∷ ranges more 0x80 0xBF

-- the ranges that the code's answer stands for
unfoldable pub ranges_of : Prelude·Option Due → Option (List Range)
ranges_of (Some due) = some (ranges due.count due.from due.to)
ranges_of None = none

-- what is due behind a byte, where these ranges were due
unfoldable pub due_after : List Range → ℕ → Option (List Range)
due_after [] b = due_behind table b
due_after (range ∷ due) b = cond (within range b) (some due) none
