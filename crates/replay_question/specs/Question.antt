-- What a line of the stored list asks (host/README.md, The stored list).
-- Assumes nothing.
use Rattle.std.specs.Prelude.{cond, Bool, ◌&&◌, ◌||◌, List, ℕ, leb, ltb, eqb, Option, is_some, unwrap_or, Result, Ok, Err, is_ok}
use Rattle.std.specs.Bool.{then_some}
use Rattle.params.specs.Variants.{known}
use Rattle.options.specs.Options.{most_options}
use Rattle.replay_words.specs.Words.{after_words, first_word, number_of}
use Rattle.replay_pattern.specs.Pattern.{is_pattern}
use Rattle.replay_inputs.specs.declared.Input.{Input}
use Rattle.replay_question.specs.declared.Question.{Question}

-- the number after so many words
unfoldable pub number_after : List ℕ → ℕ → ℕ → Option ℕ
number_after line k most = number_of most (first_word (after_words k line))

-- a number, or 0 for none
abbrev pub value_of : Option ℕ → ℕ
value_of n = unwrap_or n 0

-- what was read, whatever is said of it
abbrev pub whole : {A : Type 0} → Result A A → A
whole (Ok a) = a
whole (Err a) = a

-- the word of the seed, or of the pattern
abbrev pub seed_word : List ℕ → List ℕ
seed_word line = first_word (after_words 4 line)

-- the seed: for kind 0 the pattern, and else a number below 2^31
unfoldable pub seed_of : ℕ → List ℕ → Option ℕ
seed_of kind line =
    cond (eqb kind 0) (then_some (is_pattern (seed_word line)) 0) (number_after line 4 2_147_483_647)

-- what was read, of a line that is good or is not
abbrev pub told : {A : Type 0} → Bool → A → Result A A
told good a = cond good (Ok a) (Err a)

-- kind, seed and length, 0 for each that was not read
unfoldable pub input_of : List ℕ → Result Input Input
input_of line =
    let kind : Option ℕ = number_after line 3 3 in
    let seed : Option ℕ = seed_of (value_of kind) line in
    let length : Option ℕ = number_after line 5 4_294_967_295 in
    told (is_some kind && is_some seed && is_some length)
    (record { kind = value_of kind; seed = value_of seed; length = value_of length })

-- all that is asked, 0 for each number that was not read; an input in one piece has at most 65,536 bytes
unfoldable pub question_of : List ℕ → Result Question Question
question_of line =
    let variant : Option ℕ = number_after line 0 256 in
    let options : Option ℕ = number_after line 1 most_options in
    let piece : Option ℕ = number_after line 2 65_536 in
    let asked : Result Input Input = input_of line in
    let input : Input = whole asked in
    told (
    is_some variant
    && known (value_of variant)
    && is_some options
    && is_some piece
    && (ltb 0 (value_of piece) || leb input.length 65_536)
    && is_ok asked
    )
    (record { variant = value_of variant; options = value_of options; piece = value_of piece; input = input })
