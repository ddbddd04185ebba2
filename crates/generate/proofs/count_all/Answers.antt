-- `generate::count_all` meets its contract: what both parts of the bytes do is what all of them do.
-- Assumes nothing.
use Rattle.generate.proofs.Loops.{ran_cut}
use Rattle.generate.proofs.count_all.Goals as goal

pub returns : goal.returns
returns c = search ran_cut
