-- The structs that C gets: the number of an answer, and its value, all zero beside a refusal (docs/RULES.md, section 6).
-- Assumes nothing.
use Rattle.std.specs.Prelude.{ℕ, Result}
use Rattle.std.specs.Result.{result_unwrap_or}
use Rattle.params.specs.declared.Refusal.{Refusal}
use Rattle.params.specs.Answers.{answer_number}
use Rattle.hash.specs.declared.Digest.{Digest}
use Rattle.hash.specs.Digest.{zero_digest}
use Rattle.saltcurtain_c.specs.declared.DistanceAnswer.{DistanceAnswer}
use Rattle.saltcurtain_c.specs.declared.ReadAnswer.{ReadAnswer}

abbrev pub distance_answer : Result ℕ Refusal → DistanceAnswer
distance_answer r = record { number = answer_number r; distance = result_unwrap_or r 0 }

abbrev pub read_answer : Result Digest Refusal → ReadAnswer
read_answer r = record { number = answer_number r; digest = result_unwrap_or r zero_digest }
