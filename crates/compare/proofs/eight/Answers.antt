-- `compare::eight` meets its contract.
-- Assumes nothing.
use Rattle.compare.proofs.Bodies.{eight_is}
use borrow.Author.Rules.{rules}
use Rattle.compare.proofs.eight.Goals as goal

pub returns : goal.returns
returns c = (search (eight_is, c.fits-x, c.fits-y), search rules)
