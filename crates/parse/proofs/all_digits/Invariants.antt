-- `parse::all_digits` meets its contract. The loop tests one character after the other.
-- Assumes nothing.
use Rattle.parse.proofs.Reading.{Tested}
use Rattle.parse.proofs.all_digits.Given as goal

abbrev pub invariant-loop-c : goal.invariant-loop-c
invariant-loop-c l = Tested l.t l.c-index l.good
