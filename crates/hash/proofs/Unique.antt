-- The contracts of `hash` leave one answer each.
-- Assumes nothing.
use Rattle.params.proofs.One.{OneAnswer, one_answer}
use Rattle.hash.specs.contracts.Digest.zero as zero
use Rattle.hash.specs.contracts.Digest.same as same

one_zero : OneAnswer zero.ended (λ M 𝓤. zero.clauses)
one_zero M 𝓤 𝓛 at_mem run κs a g h z y e f = one_answer 𝓤 _ z y

one_same : OneAnswer same.ended (λ M 𝓤. same.clauses)
one_same M 𝓤 𝓛 at_mem run κs a g h z y e f = one_answer 𝓤 _ z y
