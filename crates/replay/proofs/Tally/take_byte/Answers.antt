-- `replay::Tally::take_byte` meets its contract.
-- Assumes nothing.
use Rattle.std.proofs.Common.{rules}
use Rattle.replay.proofs.Laws.{byte_long, byte_more}
use Rattle.replay.proofs.Tally.take_byte.Goals as goal

pub returns-then-self-lt320 : goal.returns-then-self-lt320
returns-then-self-lt320 c = search (byte_more, c.if-byte-eq10.false, rules)

pub returns-else-self-lt320 : goal.returns-else-self-lt320
returns-else-self-lt320 c = search (byte_long, c.if-byte-eq10.false, rules)
