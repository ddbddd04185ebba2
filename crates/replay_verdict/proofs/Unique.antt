-- The contracts of `replay_verdict` leave one answer each.
-- Assumes nothing.
use Rattle.params.proofs.One.{OneAnswer, one_answer}
use Rattle.replay_verdict.specs.contracts.judge as judge

one_judge : OneAnswer judge.ended (λ M 𝓤. judge.clauses)
one_judge M 𝓤 𝓛 at_mem run κs a g h z y e f = one_answer 𝓤 _ z y
