-- `replay::Tally::read_list` meets its contract: the tally is that of the bytes of every read so far.
-- Assumes nothing.
use Rattle.replay.proofs.Laws.{Held}
use Rattle.std.specs.Fd.{file_raw_fd}
use Rattle.replay.proofs.Tally.read_list.Given as goal

abbrev pub invariant-loop : goal.invariant-loop
invariant-loop l = Held (file_raw_fd l.list) l.self l.reads l.counter
