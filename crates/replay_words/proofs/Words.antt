-- The laws that the functions on words, texts and numbers cite.
-- Assumes nothing.
use Rattle.std.proofs.Common.{◌≡◌, refl, ap, ◌∙◌, ℕ, zero, suc, ◌+◌, ◌-◌, ◌<◌, ◌≤◌, min, List, [], ◌∷◌, length, eqb, ltb, take, drop, arith, unwrap_or, drop-drop, take_all, length-drop, add-one, true, false, Option, Some, None, Result, ◌^◌, rules, leb}
use Rattle.std.proofs.lemmas.Str.{IsUtf8-from_ascii}
use Rattle.std.proofs.lemmas.Fmt.{IsAscii-from_digits}
use Rattle.std.proofs.lemmas.Str.Parse.{IsNumeralModel, numerals_by_fold, parse_digits}
use Rattle.std.specs.Str.{IsUtf8}
use Rattle.std.specs.Str.Parse.{ParsesUnsigned}
use Rattle.std.specs.Bool.{then_some}
use Rattle.std.specs.Result.{OkIff, result_ok}
use Rattle.std.proofs.lemmas.List.{drop_min}
use Rattle.std.proofs.lemmas.Grind.{common_steps}
use Rattle.std.specs.List.{position, list_all}
use Rattle.std.specs.Char.{is_ascii_digit}
use Rattle.params.specs.Words.{every}
use Rattle.replay_words.specs.Words.{word_size, after_word, after_words, is_decimal, decimal_after, is_numeral, number_of}

-- ---- words

-- a word's size is the place of the first space, or all
pub size_is : (s : List ℕ) → unwrap_or (position (λ c. eqb c 32) s) (length s) ≡ word_size s
size_is [] = refl
size_is (c ∷ cs) = grind (arith, common_steps, size_is cs)

-- a word ends within its text
pub size_within : (s : List ℕ) → word_size s ≤ length s
size_within [] = omega arith
size_within (c ∷ cs) = grind (arith, common_steps, size_within cs)

-- one word more
pub words_more : (k : ℕ) (s : List ℕ) → after_words (suc k) s ≡ after_word (after_words k s)
words_more zero s = refl
words_more (suc k) s = words_more k (after_word s)

-- what a walk over words keeps: it stands where so many end
pub record Walked (line : List ℕ) (count at : ℕ) : Type 0 where
  pub within : at ≤ length line
  pub rest : drop at line ≡ after_words count line

-- a turn passes a word and its space
pub walked_more : (line : List ℕ) (count at size : ℕ) → Walked line count at → size ≡ word_size (take (length line - at) (drop at line))
    → Walked line (count + 1) (min (at + size + 1) (length line))
walked_more line count at size p e =
    let here : size ≡ word_size (drop at line) = rw (take_all (length line - at) (drop at line) (simp length-drop (omega arith))) at e in
    record {
      within = omega arith;
      rest = drop_min (at + size + 1) line ∙ rw (add-one count, words_more count line, ← p.rest, ← here, drop-drop (suc size) at line)
          (ap (λ (n : ℕ). drop n line) (omega arith));
    }

-- ---- numbers

decimal_is : (c : ℕ) → is_decimal c ≡ is_ascii_digit c
unfolding is_decimal
decimal_is c = refl

-- decimal digits alone are what `all` tests
pub decimals_are : (i : ℕ) (s : List ℕ) → every (λ (i c : ℕ). is_decimal c) i s ≡ list_all is_ascii_digit s
decimals_are i [] = refl
decimals_are i (c ∷ cs) = rw (decimal_is c, decimals_are (suc i) cs) refl

-- the library's words for a numeral: digits alone, and what they say
abbrev Digits : List ℕ → Type 0
Digits s = list_all is_ascii_digit s ≡ true

said : IsNumeralModel Digits (decimal_after 0)
said = numerals_by_fold Digits (search rules) decimal_after (search rules)

-- a numeral has a digit, and digits alone
digits : (s : List ℕ) → is_numeral s ≡ true → (0 < length s) × Digits s
unfolding is_numeral
digits s e = grind (arith, common_steps, decimals_are 0 s)

-- so it is a text
pub numeral_text : (s : List ℕ) → is_numeral s ≡ true → IsUtf8 s
numeral_text s e = IsUtf8-from_ascii s (IsAscii-from_digits s (said.to s (digits s e).1))

-- the number of a text that is no numeral
pub number_none : (s : List ℕ) (most : ℕ) → is_numeral s ≡ false → None ≡ number_of most s
unfolding number_of
number_none s most e = rw e refl

module _ {E : Type 0} (s t : List ℕ) (most : ℕ) (r : Result ℕ E) (n : is_numeral s ≡ true) (same : t ≡ s) (m : most < 2 ^ 32)
    (p : ParsesUnsigned 32 10 t r) where
  parsed : OkIff r ((0 < length s) × (decimal_after 0 s < 2 ^ 32)) (decimal_after 0 s)
  parsed = parse_digits said 32 s r (rw same at p) (digits s n).1

  -- a numeral that is not read says too great a number
  pub number_large : result_ok r ≡ None → None ≡ number_of most s
  unfolding number_of
  number_large e =
      let large : ltb most (decimal_after 0 s) ≡ true = grind (arith, common_steps, parsed, digits s n) in
      rw (n, large) refl

  -- one that is read says what was read
  pub number_read : (v : ℕ) (o : Option ℕ) → result_ok r ≡ Some v → o ≡ then_some (leb v most) v → o ≡ number_of most s
  unfolding number_of
  number_read v o e f =
      let is : v ≡ decimal_after 0 s = grind (arith, common_steps, parsed) in
      grind (arith, common_steps, n, is)
