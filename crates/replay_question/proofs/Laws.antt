-- What a question shows.
-- Assumes nothing.
use Rattle.std.proofs.Common.{◌≡◌, true, List, ℕ, Ok, arith}
use Rattle.std.proofs.lemmas.Grind.{common_steps}
use Rattle.params.specs.Variants.{known}
use Rattle.replay_question.specs.declared.Question.{Question}
use Rattle.replay_question.specs.Question.{question_of}

-- a question is one for a known variant
pub good_known : (line : List ℕ) (q : Question) → question_of line ≡ Ok q → known q.variant ≡ true
unfolding question_of
good_known line q e = grind (arith, common_steps)
