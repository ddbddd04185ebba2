-- `leap::Tables::scan` meets its contract: after some fours, those that are left lead to the same end.
-- Assumes nothing.
use Rattle.leap.proofs.Turns.{Scans}
use Rattle.leap.proofs.Tables.scan.Given as goal

abbrev pub invariant-loop-b4 : goal.invariant-loop-b4
invariant-loop-b4 l = Scans l.self.variant l.bytes l.initial.places l.initial.w l.b4-index l.places l.w
