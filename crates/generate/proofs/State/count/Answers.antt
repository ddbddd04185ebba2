-- `generate::State::count` meets its contract: what the loop does is what the bytes do.
-- Assumes nothing.
use Rattle.generate.proofs.Parts.{counted_feed}
use Rattle.generate.proofs.State.count.Goals as goal

pub returns : goal.returns
returns c = search counted_feed
