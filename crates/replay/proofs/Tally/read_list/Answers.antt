-- `replay::Tally::read_list` meets its contract: the tally is that of the bytes of every read so far.
-- Assumes nothing.
use Rattle.std.proofs.Common.{rules}
use Rattle.replay.proofs.Laws.{held_none, held_more}
use Rattle.replay.proofs.Tally.read_list.Goals as goal

pub loop-init : goal.loop-init
loop-init c = search (held_none, rules)

pub loop-preserved : goal.loop-preserved
loop-preserved c = search (held_more, rules)
