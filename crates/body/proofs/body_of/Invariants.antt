-- `body::body_of` meets its contract. The loop fills the body from its last used byte to its first.
-- Assumes nothing.
use Rattle.body.proofs.Laws.{Filled}
use Rattle.body.proofs.body_of.Given as goal

abbrev pub invariant-loop-i : goal.invariant-loop-i
invariant-loop-i l = Filled l.cuts l.used l.m l.i l.body
