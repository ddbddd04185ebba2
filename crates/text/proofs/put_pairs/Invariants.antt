-- `text::put_pairs` meets its contract. The loop stores one pair after the other.
-- Assumes nothing.
use Rattle.text.proofs.Apart.{Puts}
use Rattle.text.proofs.put_pairs.Given as goal

abbrev pub invariant-loop-i : goal.invariant-loop-i
invariant-loop-i l = Puts l.initial.destination l.high l.low l.i l.destination
