-- `saltcurtain::judge` meets its contract: 10, then 6, then 7.
-- Assumes nothing.
use Rattle.saltcurtain.proofs.Laws.{argument_room, argument_done}
use Rattle.saltcurtain.proofs.judge.Goals as goal

pub returns-then-branch : goal.returns-then-branch
returns-then-branch c =
    argument_room _ _ _ _ c.in_ok-options_of.ensures _ c.in_ok-text_size.ensures c.if-branch.true

pub returns : goal.returns
returns c = argument_done _ _ _ _ c.in_ok-options_of.ensures _ c.in_ok-text_size.ensures c.if-branch.false
