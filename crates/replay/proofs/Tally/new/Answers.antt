-- `replay::Tally::new` meets its contract.
-- Assumes nothing.
use Rattle.replay.proofs.Laws.{counted_none}
use Rattle.replay.proofs.Tally.new.Goals as goal

pub returns : goal.returns
returns c = counted_none _
