-- `generate::store` meets its contract: the bytes are stored one behind the other.
-- Assumes nothing.
use Rattle.generate.proofs.Parts.{Fills}
use Rattle.generate.proofs.store.Given as goal

abbrev pub invariant-loop-i : goal.invariant-loop-i
invariant-loop-i l = Fills l.initial.tail l.at l.bytes l.i l.tail
