-- `replay_inputs::Making::fill` meets its contract. The loop stores one byte after the other.
-- Assumes nothing.
use Rattle.replay_inputs.proofs.Laws.{Filled}
use Rattle.replay_inputs.proofs.Making.fill.Given as goal

abbrev pub invariant-loop-byte : goal.invariant-loop-byte
invariant-loop-byte l = Filled l.initial.self l.initial.block l.digits l.block l.self l.byte-index
