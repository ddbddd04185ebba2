-- The contracts of `length` leave one answer each.
-- Assumes nothing.
use Rattle.params.proofs.One.{OneAnswer, one_answer}
use Rattle.length.specs.contracts.length_code as length_code
use Rattle.length.specs.contracts.limits_of as limits_of

one_length_code : OneAnswer length_code.ended (λ M 𝓤. length_code.clauses)
one_length_code M 𝓤 𝓛 at_mem run κs a g h z y e f = one_answer 𝓤 _ z y

one_limits_of : OneAnswer limits_of.ended (λ M 𝓤. limits_of.clauses)
one_limits_of M 𝓤 𝓛 at_mem run κs a g h z y e f = one_answer 𝓤 _ z y
