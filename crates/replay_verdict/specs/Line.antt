-- A line of the stored list (host/README.md, The stored list): whether its answer is the one that is defined for what it asks.
-- Assumes nothing.
use Rattle.std.specs.Prelude.{Bool, false, cond, ◌&&◌, eqb, List, [], ◌∷◌, ℕ, ltb, length, take, Option, None, Some, Result, Ok, Err}
use Rattle.params.specs.declared.Refusal.{Refusal}
use Rattle.params.specs.Variants.{known}
use Rattle.params.specs.Answers as answers
use Rattle.hash.specs.declared.Digest.{Digest}
use Rattle.text.specs.Text.{text_of}
use Rattle.finalize.specs.Final.{digest_of}
use Rattle.replay_words.specs.Words.{after_words, first_word, same_text, number_of}
use Rattle.replay_inputs.specs.Input.{input_bytes}
use Rattle.replay_question.specs.declared.Question.{Question}
use Rattle.replay_question.specs.Question.{seed_word, question_of}
use Rattle.replay_verdict.specs.declared.Verdict.{Verdict}
use Rattle.replay_verdict.specs.declared.Verdict.TheVariants.{Same, Another, Malformed}

-- `refused`
abbrev pub refused_word : List ℕ
refused_word = 114 ∷ 101 ∷ 102 ∷ 117 ∷ 115 ∷ 101 ∷ 100 ∷ []

-- a number is this one
abbrev pub is_number : Option ℕ → ℕ → Bool
is_number None n = false
is_number (Some m) n = eqb m n

-- the answer is `refused` and this number
unfoldable pub is_refusal : List ℕ → ℕ → Bool
is_refusal line n =
    same_text (first_word (after_words 6 line)) refused_word && is_number (number_of 4_294_967_295 (after_words 7 line)) n

-- the answer is this digest's text
unfoldable pub is_text : List ℕ → Digest → Bool
is_text line d = known d.variant && same_text (after_words 6 line) (text_of d)

-- the answer is this one
unfoldable pub is_answer : List ℕ → Result Digest Refusal → Bool
is_answer line (Ok d) = is_text line d
is_answer line (Err e) = is_refusal line (answers.number_of e)

-- what the line asks for
unfoldable pub asked_for : List ℕ → Question → Result Digest Refusal
asked_for line q = digest_of q.variant q.options (input_bytes q.input (seed_word line) 0 q.input.length)

-- the verdict on a line that asks this: where it breaks a rule it is malformed
unfoldable pub verdict_on : List ℕ → Result Question Question → Verdict
verdict_on line (Err q) = Malformed
verdict_on line (Ok q) = cond (is_answer line (asked_for line q)) Same Another

-- the verdict on a line
unfoldable pub verdict_of : List ℕ → Verdict
verdict_of line = verdict_on line (question_of line)

-- the verdict on the first so many characters of a room: malformed where it has not so many
unfoldable pub verdict_in : List ℕ → ℕ → Verdict
verdict_in room size = cond (ltb (length room) size) Malformed (verdict_of (take size room))
