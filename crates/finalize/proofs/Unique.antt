-- The contracts of `finalize` leave one answer each.
-- Assumes nothing.
use Rattle.params.proofs.One.{OneAnswer, one_answer}
use Rattle.finalize.specs.contracts.finalize_with as finalize_with
use Rattle.finalize.specs.contracts.finalize as finalize

one_finalize_with : OneAnswer finalize_with.ended (λ M 𝓤. finalize_with.clauses)
one_finalize_with M 𝓤 𝓛 at_mem run κs a g h z y e f = one_answer 𝓤 _ z y

one_finalize : OneAnswer finalize.ended (λ M 𝓤. finalize.clauses)
one_finalize M 𝓤 𝓛 at_mem run κs a g h z y e f = one_answer 𝓤 _ z y
