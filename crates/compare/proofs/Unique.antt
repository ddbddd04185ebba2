-- The contracts of `compare` leave one answer each.
-- Assumes nothing.
use Rattle.params.proofs.One.{OneAnswer, one_answer}
use Rattle.compare.specs.contracts.comparable as comparable
use Rattle.compare.specs.contracts.HeadFromRefDigest.from as head_from
use Rattle.compare.specs.contracts.distance_lent as distance_lent
use Rattle.compare.specs.contracts.distance as distance

one_comparable : OneAnswer comparable.ended (λ M 𝓤. comparable.clauses)
one_comparable M 𝓤 𝓛 at_mem run κs a g h z y e f = one_answer 𝓤 _ z y

one_distance_lent : OneAnswer distance_lent.ended (λ M 𝓤. distance_lent.clauses)
one_distance_lent M 𝓤 𝓛 at_mem run κs a g h z y e f = one_answer 𝓤 _ z y

one_distance : OneAnswer distance.ended (λ M 𝓤. distance.clauses)
one_distance M 𝓤 𝓛 at_mem run κs a g h z y e f = one_answer 𝓤 _ z y

one_head_from : OneAnswer head_from.ended (λ M 𝓤. head_from.clauses)
one_head_from M 𝓤 𝓛 at_mem run κs a g h z y e f = one_answer 𝓤 _ z y
