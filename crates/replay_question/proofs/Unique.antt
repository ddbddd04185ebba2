-- The contracts of `replay_question` leave one answer each.
-- Assumes nothing.
use Rattle.params.proofs.One.{OneAnswer, one_answer}
use Rattle.replay_question.specs.contracts.question_of as question_of

one_question_of : OneAnswer question_of.ended (λ M 𝓤. question_of.clauses)
one_question_of M 𝓤 𝓛 at_mem run κs a g h z y e f = one_answer 𝓤 _ z y
