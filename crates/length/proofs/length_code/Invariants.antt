-- `length::length_code` meets its contract: the loop passes the tops below n, and yields the next or runs out.
-- Assumes nothing.
use Prim.Native.Nat.{◌-◌}
use Rattle.length.proofs.Codes.{Passed}
use Rattle.length.proofs.length_code.Given as goal

abbrev pub invariant-loop-i : goal.invariant-loop-i
invariant-loop-i l = Passed l.n l.tops l.i

abbrev pub decreases-loop-i : goal.decreases-loop-i
decreases-loop-i l = 170 - l.i
