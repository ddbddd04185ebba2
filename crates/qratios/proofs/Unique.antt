-- The contracts of `qratios` leave one answer each.
-- Assumes nothing.
use Rattle.params.proofs.One.{OneAnswer, one_answer}
use Rattle.qratios.specs.contracts.times_100 as times_100
use Rattle.qratios.specs.contracts.to_single as to_single
use Rattle.qratios.specs.contracts.quartile_ratios as quartile_ratios
use Rattle.qratios.specs.contracts.ratios_byte as ratios_byte

one_times_100 : OneAnswer times_100.ended (λ M 𝓤. times_100.clauses)
one_times_100 M 𝓤 𝓛 at_mem run κs a g h z y e f = one_answer 𝓤 _ z y

one_to_single : OneAnswer to_single.ended (λ M 𝓤. to_single.clauses)
one_to_single M 𝓤 𝓛 at_mem run κs a g h z y e f = one_answer 𝓤 _ z y

one_quartile_ratios : OneAnswer quartile_ratios.ended (λ M 𝓤. quartile_ratios.clauses)
one_quartile_ratios M 𝓤 𝓛 at_mem run κs a g h z y e f = one_answer 𝓤 _ z y

one_ratios_byte : OneAnswer ratios_byte.ended (λ M 𝓤. ratios_byte.clauses)
one_ratios_byte M 𝓤 𝓛 at_mem run κs a g h z y e f = one_answer 𝓤 _ z y
