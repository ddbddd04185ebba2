-- `compare::ratio_cost` meets its contract: near and far.
-- Assumes nothing.
use Rattle.compare.proofs.Costs.{ratio_near, ratio_far}
use borrow.Author.Rules.{rules}
use Rattle.compare.proofs.ratio_cost.Goals as goal

pub returns-then-d-le1 : goal.returns-then-d-le1
returns-then-d-le1 c = (search ratio_near, search rules)

pub returns-else-d-le1 : goal.returns-else-d-le1
returns-else-d-le1 c = (search ratio_far, search rules)
