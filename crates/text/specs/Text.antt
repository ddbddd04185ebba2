-- The text of a digest, and what writing it answers and leaves (docs/RULES.md, sections 5 and 6).
-- Assumes nothing.
use Rattle.std.specs.Prelude.{cond, not, List, [], ◌∷◌, ◌++◌, ◌≡◌, ℕ, ◌+◌, ◌*◌, ◌/◌, ◌%◌, ltb, length, take, drop, Result, Ok, Err}
use Rattle.params.specs.Variants.{known}
use Rattle.params.specs.Answers.{answer_number}
use Rattle.params.specs.declared.Refusal.{Refusal}
use Rattle.params.specs.declared.Refusal.TheVariants.{UnknownVariant, ShortDestination}
use Rattle.hash.specs.declared.Digest.{Digest}
use Rattle.body.specs.Body.{bytes_of}

-- the character of a digit: 48 to 57 are 0 to 9, and 65 to 70 are A to F
unfoldable pub digit_of : ℕ → ℕ
digit_of n = cond (ltb n 10) (48 + n) (55 + n)

-- a byte's two digits, the low one first
abbrev pub low_first : ℕ → List ℕ
low_first b = digit_of (b % 16) ∷ digit_of (b / 16) ∷ []

-- a byte's two digits, the high one first
abbrev pub high_first : ℕ → List ℕ
high_first b = digit_of (b / 16) ∷ digit_of (b % 16) ∷ []

-- `T1`, checksum, length code, ratios: the q1 digit, which is the low one, then the q2 digit
abbrev pub head_text : ℕ → ℕ → ℕ → List ℕ
head_text checksum lengthCode ratios = (84 ∷ 49 ∷ []) ++ low_first checksum ++ low_first lengthCode ++ low_first ratios

-- each body byte has the high digit first
abbrev pub body_text : List ℕ → List ℕ
body_text [] = []
body_text (b ∷ bs) = high_first b ++ body_text bs

-- the text: the head, and then the used bytes of the body
unfoldable pub text_of : Digest → List ℕ
text_of d = head_text d.checksum d.length_code d.ratios ++ body_text (take (bytes_of d.variant) d.body)

-- the size of a variant's text: 32, 72 or 136
abbrev pub text_size : ℕ → ℕ
text_size v = 8 + 2 * bytes_of v

-- what is answered to a question for it
unfoldable pub size_of : ℕ → Result ℕ Refusal
size_of v = cond (not (known v)) (Err UnknownVariant) (Ok (text_size v))

-- what writing answers, and what the destination then holds
pub record Wrote : Type 0 where
  pub answer : Result (Unit {0}) Refusal
  pub destination : List ℕ

-- 6 and 7 leave the destination as it is. Else the text stands at its front, and later bytes stay
unfoldable pub write_of : Digest → List ℕ → Wrote
write_of d destination =
    cond (not (known d.variant)) (record { answer = Err UnknownVariant; destination = destination })
    (cond (ltb (length destination) (length (text_of d))) (record { answer = Err ShortDestination; destination = destination })
    (record { answer = Ok tt; destination = text_of d ++ drop (length (text_of d)) destination }))

-- a function's result and its destination at exit are these
pub record Written (result : Result (Unit {0}) Refusal) (destination : List ℕ) (w : Wrote) : Type 0 where
  pub answered : result ≡ w.answer
  pub left : destination ≡ w.destination

-- what C is told: a function's number and its destination at exit are these
pub record Numbered (number : ℕ) (destination : List ℕ) (w : Wrote) : Type 0 where
  pub answered : number ≡ answer_number w.answer
  pub left : destination ≡ w.destination
