-- `replay_inputs::feed_input` meets its contract. The loop feeds one piece after the other.
-- Assumes nothing.
use Rattle.std.proofs.Common.{rules}
use Rattle.replay_inputs.proofs.Laws.{taken_none, taken_more}
use Rattle.replay_inputs.proofs.feed_input.Goals as goal

pub loop-making-init : goal.loop-making-init
loop-making-init c = search (taken_none, rules)

pub loop-making-preserved : goal.loop-making-preserved
loop-making-preserved c = search (taken_more, rules)
