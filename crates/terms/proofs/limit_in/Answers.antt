-- `terms::limit_in` meets its contract: a Value that is found lies in the parameters. Assumes nothing.
use mathlib.Core.Path.{sym, ◌∙◌}
use borrow.Author.Rules.{rules}
use Rattle.params.proofs.Finds.{find_lies}
use Rattle.terms.proofs.limit_in.Goals as goal

pub overflow_add-place : goal.overflow_add-place
overflow_add-place c = let h = find_lies _ _ _ _ _ (sym c.find.ensures ∙ c.in-Some.is) in search rules
