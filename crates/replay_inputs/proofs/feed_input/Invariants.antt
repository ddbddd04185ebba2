-- `replay_inputs::feed_input` meets its contract. The loop feeds one piece after the other.
-- Assumes nothing.
use Rattle.std.proofs.Common.{◌-◌}
use Rattle.replay_inputs.proofs.Laws.{Taken}
use Rattle.replay_inputs.proofs.feed_input.Given as goal

abbrev pub invariant-loop-making : goal.invariant-loop-making
invariant-loop-making l = Taken l.initial.s l.fn.n l.digits l.s l.making

abbrev pub decreases-loop-making : goal.decreases-loop-making
decreases-loop-making l = l.length - l.making.at
