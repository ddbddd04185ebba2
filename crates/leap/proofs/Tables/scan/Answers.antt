-- `leap::Tables::scan` meets its contract: after some fours, those that are left lead to the same end.
-- Assumes nothing.
use Rattle.std.proofs.Common.{refl}
use Rattle.leap.proofs.Turns.{scans_more, scans_all}
use Rattle.leap.proofs.Tables.scan.Goals as goal

pub loop-b4-preserved : goal.loop-b4-preserved
loop-b4-preserved c =
    scans_more c.loop-b4.invariant c.loop-b4-test.true refl (c.told-bytes _ c.loop-b4-test.true) c.turn-w.ensures
    c.turn-w-in-loop-b4.ensures c.turn-w-in-loop-b4-2.ensures c.turn-w-in-loop-b4-3.ensures

pub returns : goal.returns
returns c = scans_all c.loop-b4.invariant c.loop-b4-test.false
