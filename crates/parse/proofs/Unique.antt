-- The contracts of `parse` leave one answer each.
-- Assumes nothing.
use Rattle.params.proofs.One.{OneAnswer, one_answer}
use Rattle.parse.specs.contracts.is_digit as is_digit
use Rattle.parse.specs.contracts.all_digits as all_digits
use Rattle.parse.specs.contracts.read_text as read_text

one_is_digit : OneAnswer is_digit.ended (λ M 𝓤. is_digit.clauses)
one_is_digit M 𝓤 𝓛 at_mem run κs a g h z y e f = one_answer 𝓤 _ z y

one_all_digits : OneAnswer all_digits.ended (λ M 𝓤. all_digits.clauses)
one_all_digits M 𝓤 𝓛 at_mem run κs a g h z y e f = one_answer 𝓤 _ z y

one_read_text : OneAnswer read_text.ended (λ M 𝓤. read_text.clauses)
one_read_text M 𝓤 𝓛 at_mem run κs a g h z y e f = one_answer 𝓤 _ z y
