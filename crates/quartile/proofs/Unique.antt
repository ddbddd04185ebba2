-- The contracts of `quartile` leave one answer each.
-- Assumes nothing.
use Rattle.params.proofs.One.{OneAnswer, one_answer}
use Rattle.quartile.specs.contracts.count_le as count_le
use Rattle.quartile.specs.contracts.non_zero as non_zero
use Rattle.quartile.specs.contracts.quartiles_of as quartiles_of
use Rattle.quartile.specs.contracts.variant_quartiles as variant_quartiles

one_count_le : OneAnswer count_le.ended (λ M 𝓤. count_le.clauses)
one_count_le M 𝓤 𝓛 at_mem run κs a g h z y e f = one_answer 𝓤 _ z y

one_non_zero : OneAnswer non_zero.ended (λ M 𝓤. non_zero.clauses)
one_non_zero M 𝓤 𝓛 at_mem run κs a g h z y e f = one_answer 𝓤 _ z y

one_quartiles_of : OneAnswer quartiles_of.ended (λ M 𝓤. quartiles_of.clauses)
one_quartiles_of M 𝓤 𝓛 at_mem run κs a g h z y e f = one_answer 𝓤 _ z y

one_variant_quartiles : OneAnswer variant_quartiles.ended (λ M 𝓤. variant_quartiles.clauses)
one_variant_quartiles M 𝓤 𝓛 at_mem run κs a g h z y e f = one_answer 𝓤 _ z y
