-- `quartile::place_of` meets its contract: the number at place k stays from low to high, and there is one number left in the end.
-- Assumes nothing.
use native.Mathlib.Omega.{arith}
use Rattle.quartile.proofs.Order.{place_past}
use Rattle.quartile.proofs.Laws.{bracket_start, bracket_low, bracket_up, bracket_end}
use Rattle.quartile.proofs.place_of.Goals as goal

pub returns-then-used-k : goal.returns-then-used-k
returns-then-used-k c = search (place_past, arith)

pub loop-low-init : goal.loop-low-init
loop-low-init c = search (bracket_start, arith)

pub loop-low-preserved-then-k-count_le : goal.loop-low-preserved-then-k-count_le
loop-low-preserved-then-k-count_le c = search bracket_low

pub loop-low-preserved : goal.loop-low-preserved
loop-low-preserved c =
    bracket_up c.args.used.now c.args.k c.loop-low.low c.loop-low.high c.count_le.result _ c.if-used-k.false c.loop-low.invariant
    c.count_le.ensures c.if-k-count_le.false (omega arith)

pub returns : goal.returns
returns c = search bracket_end
