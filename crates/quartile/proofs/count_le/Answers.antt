-- `quartile::count_le` meets its contract: the blocks that are counted and what is still to be counted make the whole.
-- Assumes nothing.
use Rattle.std.proofs.Common.{◌∙◌}
use Rattle.quartile.proofs.Laws.{counted_block, counted_all}
use Rattle.quartile.proofs.count_le.Goals as goal

pub loop-block-preserved : goal.loop-block-preserved
loop-block-preserved c =
    let steps = c.in-Some.ensures.steps in
    (steps.0 ∙ c.loop-block.invariant.0, counted_block _ _ _ _ _ _ _ c.loop-block.invariant.1 steps.1.0 c.count_block.ensures)

pub returns : goal.returns
returns c = counted_all _ _ _ _ c.loop-block.invariant.1 c.in-None.ensures.steps.1.0
