-- The contracts of `params` leave one answer each.
-- Assumes nothing.
use Rattle.params.proofs.One.{OneAnswer, one_answer}
use Rattle.params.specs.contracts.Variant.buckets as buckets
use Rattle.params.specs.contracts.answer_number as answer_number
use Rattle.params.specs.contracts.is_known as is_known
use Rattle.params.specs.contracts.smaller as smaller

one_buckets : OneAnswer buckets.ended (λ M 𝓤. buckets.clauses)
one_buckets M 𝓤 𝓛 at_mem run κs a g h z y e f = one_answer 𝓤 _ z y

one_answer_number : OneAnswer answer_number.ended (λ M 𝓤. answer_number.clauses)
one_answer_number M 𝓤 𝓛 at_mem run κs a g h z y e f = one_answer 𝓤 _ z y

one_is_known : OneAnswer is_known.ended (λ M 𝓤. is_known.clauses)
one_is_known M 𝓤 𝓛 at_mem run κs a g h z y e f = one_answer 𝓤 _ z y

one_smaller : OneAnswer smaller.ended (λ M 𝓤. smaller.clauses)
one_smaller M 𝓤 𝓛 at_mem run κs a g h z y e f = one_answer 𝓤 _ z y
