-- The contract of `leap` leaves one answer, and one content of the counters that are lent to be written.
-- Assumes nothing.
use Rattle.std.proofs.Common.{ℕ, List}
use Rattle.params.proofs.One.{One}
use Rattle.counting.specs.declared.Window.{Window}
use Rattle.counting.proofs.Unique.{one_ran}
use Rattle.leap.specs.contracts.over as over

one_over : One over.ended (λ M 𝓤. over.clauses) (Window × List ℕ) (λ κs z e. (z, e.0.now))
one_over M 𝓤 𝓛 at_mem run κs a g h z y e f = one_ran 𝓤 _ _ _ _ z y e.0.now f.0.now
