-- `counting::one_by_one` meets its contract: after some bytes, those that are left lead to the same end.
-- Assumes nothing.
use Rattle.counting.proofs.Laws.{Runs}
use Rattle.counting.proofs.one_by_one.Given as goal

abbrev pub invariant-loop-b : goal.invariant-loop-b
invariant-loop-b l = Runs l.tables.variant l.bytes l.initial.counters l.initial.w l.b-index l.counters l.w
