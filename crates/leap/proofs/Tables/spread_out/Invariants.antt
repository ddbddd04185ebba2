-- `leap::Tables::spread_out` meets its contract: after some places, those that are left lead to the same end.
-- Assumes nothing.
use Rattle.std.proofs.Common.{length}
use Rattle.leap.proofs.Places.{Spreads}
use Rattle.leap.proofs.Tables.spread_out.Given as goal

abbrev pub invariant-loop-number : goal.invariant-loop-number
invariant-loop-number l = Spreads l.initial.counters l.places l.self.last (length l.yielded) l.counters
