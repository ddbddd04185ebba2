-- The contracts of `timed` leave one answer, and one content of the memory that is lent to be written, each.
-- Assumes nothing.
use mathlib.Core.List.{List}
use Prim.Native.Nat.{ℕ}
use Rattle.params.proofs.One.{One, OneAnswer, one_answer}
use Rattle.text.proofs.Unique.{one_numbered}
use Rattle.timed.specs.contracts.saltcurtain_timed_write as timed_write
use Rattle.timed.specs.contracts.saltcurtain_timed_read as timed_read

one_timed_write : One timed_write.ended (λ M 𝓤. timed_write.clauses) (ℕ × List ℕ) (λ κs z e. (z, e.1.1.1.1.1.0.now))
one_timed_write M 𝓤 𝓛 at_mem run κs a g h z y e f = one_numbered 𝓤 _ z y e.1.1.1.1.1.0.now f.1.1.1.1.1.0.now

one_timed_read : OneAnswer timed_read.ended (λ M 𝓤. timed_read.clauses)
one_timed_read M 𝓤 𝓛 at_mem run κs a g h z y e f = one_answer 𝓤 _ z y
