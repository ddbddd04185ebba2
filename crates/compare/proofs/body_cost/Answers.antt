-- `compare::body_cost` meets its contract: the short, the normal and the long body.
-- Assumes nothing.
use Rattle.compare.proofs.Bodies.{body_short, body_normal, body_long}
use borrow.Author.Rules.{rules}
use Rattle.compare.proofs.body_cost.Goals as goal

pub returns-in-Short : goal.returns-in-Short
returns-in-Short c = (rw c.in-Short.is (search body_short), search rules)

pub returns-in-Normal : goal.returns-in-Normal
returns-in-Normal c = (rw c.in-Normal.is (search body_normal), search rules)

pub returns-in-Long : goal.returns-in-Long
returns-in-Long c = (rw c.in-Long.is (search body_long), search rules)
