-- What stands beside a refusal in the structs that C gets, as statements (docs/RULES.md, section 6).
-- Assumes nothing.
use Rattle.std.specs.Prelude.{◌≡◌, ◌≢◌, ℕ, List}
use Rattle.params.specs.Answers.{done}
use Rattle.hash.specs.Digest.{zero_digest}
use Rattle.parse.specs.Reading.{read_of}
use Rattle.saltcurtain.specs.Entries.{texts_distance}
use Rattle.saltcurtain_c.specs.Answers.{distance_answer, read_answer}

-- a text that is refused is answered an all-zero digest
abbrev pub ReadIsZero : Type 0
ReadIsZero = (v : ℕ) (text : List ℕ) → (read_answer (read_of v text)).number ≢ done → (read_answer (read_of v text)).digest ≡ zero_digest

-- two texts that are refused are answered the distance 0
abbrev pub DistanceIsZero : Type 0
DistanceIsZero = (v : ℕ) (s : List ℕ) (w : ℕ) (t : List ℕ) → (distance_answer (texts_distance v s w t)).number ≢ done
    → (distance_answer (texts_distance v s w t)).distance ≡ 0
