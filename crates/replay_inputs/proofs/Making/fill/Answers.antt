-- `replay_inputs::Making::fill` meets its contract. The loop stores one byte after the other.
-- Assumes nothing.
use Rattle.std.proofs.Common.{rules}
use Rattle.replay_inputs.proofs.Laws.{filled_more}
use Rattle.replay_inputs.proofs.Making.fill.Goals as goal

pub loop-byte-preserved : goal.loop-byte-preserved
loop-byte-preserved c = search (filled_more, rules)
