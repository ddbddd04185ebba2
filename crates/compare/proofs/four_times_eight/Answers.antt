-- `compare::four_times_eight` meets its contract.
-- Assumes nothing.
use Rattle.compare.proofs.Bodies.{four_is}
use borrow.Author.Rules.{rules}
use Rattle.compare.proofs.four_times_eight.Goals as goal

pub returns : goal.returns
returns c = (search four_is, search rules)
