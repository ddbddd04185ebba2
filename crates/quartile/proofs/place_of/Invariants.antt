-- `quartile::place_of` meets its contract: the number at place k stays from low to high, and there is one number left in the end.
-- Assumes nothing.
use Prim.Native.Nat.{◌-◌}
use Rattle.quartile.proofs.Laws.{Bracket}
use Rattle.quartile.proofs.place_of.Given as goal

abbrev pub invariant-loop-low : goal.invariant-loop-low
invariant-loop-low l = Bracket l.used l.k l.low l.high

abbrev pub decreases-loop-low : goal.decreases-loop-low
decreases-loop-low l = l.high - l.low
