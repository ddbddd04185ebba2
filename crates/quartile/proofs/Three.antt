-- Laws of the three quartiles.
-- Assumes nothing.
use Prim.Native.Nat.{◌-◌, ◌*◌, ◌/◌, ◌≤◌, ◌<◌}
use native.Mathlib.Omega.{arith}
use native.Mathlib.Decide.{dec_lt}
use lib.ListN.{length}
use Rattle.quartile.specs.Quartile.{quartiles}
use Rattle.quartile.specs.Theorems.{QuartilesOrdered, ThirdAbove, ThirdHeavy}
use Rattle.quartile.proofs.Order.{place_rises, place_past}
use Rattle.quartile.proofs.Weight.{place_above, heavy}

-- q1 is at most q2, and q2 at most q3
pub quartiles_ordered : QuartilesOrdered
unfolding quartiles
quartiles_ordered xs = go (dec_lt 0 (length xs))
  where
    go : Dec (0 < length xs) → ((quartiles xs).q1 ≤ (quartiles xs).q2) × ((quartiles xs).q2 ≤ (quartiles xs).q3)
    go (yes h) = (place_rises xs _ _ (omega arith) (omega arith), place_rises xs _ _ (omega arith) (omega arith))
    go (no h) =
        let a = place_past xs (length xs / 4 - 1) (omega arith) in
        let b = place_past xs (length xs / 2 - 1) (omega arith) in
        (omega arith, omega arith)

-- at least N/4+1 of N numbers are no less than q3
pub third_above : ThirdAbove
unfolding quartiles
third_above xs h = omega (arith, place_above xs (3 * length xs / 4 - 1) (omega arith))

-- and so q3, taken once for each number but those before its place, weighs no more than all of them
pub third_heavy : ThirdHeavy
unfolding quartiles
third_heavy xs h = heavy xs (3 * length xs / 4 - 1) (omega arith)
