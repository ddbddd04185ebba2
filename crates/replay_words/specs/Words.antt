-- Words, texts and decimal numbers in a line of the stored list (host/README.md, The stored list). A space is 32, the digits 0 to 9
-- are 48 to 57.
-- Assumes nothing.
use Rattle.std.specs.Prelude.{Bool, true, false, cond, not, ◌&&◌, List, [], ◌∷◌, ℕ, zero, suc, ◌+◌, ◌-◌, ◌*◌, leb, ltb, eqb, length, get_or, take, drop, Option, Some, None}
use Rattle.std.specs.Borrow.{Bor}
use Rattle.params.specs.Words.{every}

-- how many characters stand before the first space
abbrev pub word_size : List ℕ → ℕ
word_size [] = 0
word_size (c ∷ cs) = cond (eqb c 32) 0 (suc (word_size cs))

-- what stands after the first word and its space
abbrev pub after_word : List ℕ → List ℕ
after_word s = drop (suc (word_size s)) s

-- what stands after so many words
abbrev pub after_words : ℕ → List ℕ → List ℕ
after_words zero s = s
after_words (suc k) s = after_words k (after_word s)

-- where that starts: before it stands what is not left
abbrev pub rest_at : ℕ → List ℕ → ℕ
rest_at k s = length s - length (after_words k s)

-- so many characters into a lent part: its block of memory, and the place there
abbrev pub into : Bor (List ℕ) → ℕ → ℕ × ℕ
into s n = (s.ref_ptr.0, n + s.ref_ptr.1)

-- the first word
abbrev pub first_word : List ℕ → List ℕ
first_word s = take (word_size s) s

-- two texts are the same, character by character
abbrev pub same_text : List ℕ → List ℕ → Bool
same_text [] [] = true
same_text [] (y ∷ ys) = false
same_text (x ∷ xs) [] = false
same_text (x ∷ xs) (y ∷ ys) = eqb x y && same_text xs ys

-- a decimal digit
unfoldable pub is_decimal : ℕ → Bool
is_decimal c = leb 48 c && leb c 57

-- decimal digits alone
abbrev pub all_decimal : List ℕ → Bool
all_decimal s = every (λ (i c : ℕ). is_decimal c) 0 s

-- the number that digits say, after v
abbrev pub decimal_after : ℕ → List ℕ → ℕ
decimal_after v [] = v
decimal_after v (c ∷ cs) = decimal_after (10 * v + (c - 48)) cs

-- one to ten digits, the first not 0 where there are more
unfoldable pub is_numeral : List ℕ → Bool
is_numeral s =
    cond (eqb (length s) 0) false
    (cond (ltb 10 (length s)) false
    (cond (ltb 1 (length s) && eqb (get_or s 0 0) 48) false (all_decimal s)))

-- the number that a text says, at most so great
unfoldable pub number_of : ℕ → List ℕ → Option ℕ
number_of most s =
    cond (not (is_numeral s)) None
    (cond (ltb most (decimal_after 0 s)) None (Some (decimal_after 0 s)))
