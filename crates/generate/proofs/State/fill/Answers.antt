-- `generate::State::fill` meets its contract: the bytes are stored one behind the other.
-- Assumes nothing.
use Rattle.generate.proofs.Parts.{tail_filled}
use Rattle.generate.proofs.State.fill.Goals as goal

pub returns-clause-state : goal.returns-clause-state
returns-clause-state c = search tail_filled
