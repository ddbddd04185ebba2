-- The contracts of `body` leave one answer each.
-- Assumes nothing.
use Rattle.params.proofs.One.{OneAnswer, one_answer}
use Rattle.body.specs.contracts.bytes_of as bytes_of
use Rattle.body.specs.contracts.body_of as body_of

one_bytes_of : OneAnswer bytes_of.ended (λ M 𝓤. bytes_of.clauses)
one_bytes_of M 𝓤 𝓛 at_mem run κs a g h z y e f = one_answer 𝓤 _ z y

one_body_of : OneAnswer body_of.ended (λ M 𝓤. body_of.clauses)
one_body_of M 𝓤 𝓛 at_mem run κs a g h z y e f = one_answer 𝓤 _ z y
