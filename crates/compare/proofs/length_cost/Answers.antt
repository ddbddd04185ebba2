-- `compare::length_cost` meets its contract: near and far.
-- Assumes nothing.
use Rattle.compare.proofs.Costs.{length_near, length_far}
use borrow.Author.Rules.{rules}
use Rattle.compare.proofs.length_cost.Goals as goal

pub returns-then-d-le1 : goal.returns-then-d-le1
returns-then-d-le1 c = (search (length_near, rules), search rules)

pub returns-else-d-le1 : goal.returns-else-d-le1
returns-else-d-le1 c = (search (length_far, rules), search rules)
