-- `digest::all` meets its contract: the bytes of every read so far have been taken in.
-- Assumes nothing.
use Rattle.digest.proofs.Laws.{Held}
use Rattle.digest.proofs.all.Given as goal

abbrev pub invariant-loop : goal.invariant-loop
invariant-loop l = Held l.state l.reads l.counter
