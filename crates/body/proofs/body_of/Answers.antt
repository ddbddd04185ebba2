-- `body::body_of` meets its contract. The loop fills the body from its last used byte to its first.
-- Assumes nothing.
use Rattle.std.proofs.Common.{rules}
use Rattle.body.proofs.Laws.{filled_none, filled_next, filled_all}
use Rattle.body.proofs.body_of.Goals as goal

pub loop-i-init : goal.loop-i-init
loop-i-init c = search (filled_none, rules)

pub loop-i-preserved : goal.loop-i-preserved
loop-i-preserved c =
    let fours = c.as_chunks.ensures in
    filled_next _ _ _ _ _ _ c.loop-i.invariant fours.front_len _ fours.front c.loop-i-test.true c.byte_of.ensures

pub returns : goal.returns
returns c = filled_all _ _ _ _ _ _ c.loop-i.invariant c.as_chunks.ensures.front_len c.loop-i-test.false
