-- `counting::one_by_one` meets its contract: one byte more.
-- Assumes nothing.
use Rattle.counting.proofs.Laws.{runs_more}
use Rattle.counting.proofs.one_by_one.Goals as goal

pub loop-b-preserved : goal.loop-b-preserved
loop-b-preserved c = search runs_more
