-- `replay::Tally::take_block` meets its contract: the bytes so far have been taken in.
-- Assumes nothing.
use Rattle.std.proofs.Common.{take}
use Rattle.replay.specs.Lines.{Goes}
use Rattle.replay.proofs.Tally.take_block.Given as goal

abbrev pub invariant-loop-byte : goal.invariant-loop-byte
invariant-loop-byte l = Goes l.initial.self (take l.byte-index l.block) l.self
