-- `leap::leap` meets its contract: what the fast loop has counted is spread.
-- Assumes nothing.
use Rattle.leap.proofs.Turns.{ran_spread}
use Rattle.leap.proofs.leap.Goals as goal

pub returns : goal.returns
returns c =
    rw c.new-tables.ensures at (ran_spread _ _ _ _ _ _ _ (record { each = c.fits-counters }) c.scan-next.ensures c.spread_out.ensures)
