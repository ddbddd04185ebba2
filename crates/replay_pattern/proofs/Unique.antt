-- The contracts of `replay_pattern` leave one answer each.
-- Assumes nothing.
use Rattle.params.proofs.One.{OneAnswer, one_answer}
use Rattle.replay_pattern.specs.contracts.is_pattern as is_pattern
use Rattle.replay_pattern.specs.contracts.repeated_byte as repeated_byte

one_is_pattern : OneAnswer is_pattern.ended (λ M 𝓤. is_pattern.clauses)
one_is_pattern M 𝓤 𝓛 at_mem run κs a g h z y e f = one_answer 𝓤 _ z y

one_repeated_byte : OneAnswer repeated_byte.ended (λ M 𝓤. repeated_byte.clauses)
one_repeated_byte M 𝓤 𝓛 at_mem run κs a g h z y e f = one_answer 𝓤 _ z y
