-- `text::rows_of` meets its contract. The loop stores the two digits of one byte after the other.
-- Assumes nothing.
use Rattle.text.proofs.Apart.{Rowed}
use Rattle.text.proofs.rows_of.Given as goal

abbrev pub invariant-loop-i : goal.invariant-loop-i
invariant-loop-i l = Rowed l.bytes l.i l.high l.low
