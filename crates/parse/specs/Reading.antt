-- Reading a text (docs/RULES.md, sections 5 and 6): exactly the written form, with any bytes.
-- Assumes nothing.
use Rattle.std.specs.Prelude.{Bool, true, cond, not, ◌&&◌, ◌||◌, List, [], ◌∷◌, ◌++◌, ℕ, ◌+◌, ◌-◌, ◌*◌, leb, eqb, length, get_or, drop, replicate, Result, Ok, Err}
use Rattle.params.specs.Variants.{known}
use Rattle.params.specs.declared.Refusal.{Refusal}
use Rattle.params.specs.declared.Refusal.TheVariants.{UnknownVariant, WrongSize, WrongCharacter}
use Rattle.hash.specs.declared.Digest.{Digest}
use Rattle.text.specs.Text.{text_size}

-- a digit: 48 to 57 are 0 to 9, and 65 to 70 are A to F
unfoldable pub is_digit : ℕ → Bool
is_digit c = (leb 48 c && leb c 57) || (leb 65 c && leb c 70)

-- the value of a digit
unfoldable pub value_of : ℕ → ℕ
value_of c = cond (leb c 57) (c - 48) (c - 55)

-- digits alone
abbrev pub all_digits : List ℕ → Bool
all_digits [] = true
all_digits (c ∷ cs) = is_digit c && all_digits cs

-- the byte of a low and a high digit
unfoldable pub byte_from : ℕ → ℕ → ℕ
byte_from low high = value_of low + 16 * value_of high

-- the byte whose low digit stands at one place, and its high digit at another
abbrev pub byte_at : List ℕ → ℕ → ℕ → ℕ
byte_at t low high = byte_from (get_or t low 0) (get_or t high 0)

-- the bytes of digits two by two, the high one of each two first
abbrev pub bytes_from : List ℕ → List ℕ
bytes_from [] = []
bytes_from (h ∷ []) = []
bytes_from (h ∷ l ∷ cs) = byte_from l h ∷ bytes_from cs

-- the body: the bytes from place 6 on, and 0 up to 64
unfoldable pub body_from : List ℕ → List ℕ
body_from t = bytes_from (drop 6 t) ++ replicate (64 - length (bytes_from (drop 6 t))) 0

-- the digest that the digits after `T1` give
unfoldable pub digest_from : ℕ → List ℕ → Digest
digest_from v t =
    record {
      body = body_from t;
      variant = v;
      checksum = byte_at t 0 1;
      length_code = byte_at t 2 3;
      ratios = byte_at t 4 5;
    }

-- what stands after `T1` answers its digest, or 9 where a character is no digit
unfoldable pub digits_of : ℕ → List ℕ → Result Digest Refusal
digits_of v t = cond (not (all_digits t)) (Err WrongCharacter) (Ok (digest_from v t))

-- the first two characters are `T` and `1`
abbrev pub begins_t1 : List ℕ → Bool
begins_t1 s = eqb (get_or s 0 0) 84 && eqb (get_or s 1 0) 49

-- the answer: 6 for the variant, 8 for the size, 9 for the characters, in this order
unfoldable pub read_of : ℕ → List ℕ → Result Digest Refusal
read_of v s =
    cond (not (known v)) (Err UnknownVariant)
    (cond (not (eqb (length s) (text_size v))) (Err WrongSize)
    (cond (not (begins_t1 s)) (Err WrongCharacter) (digits_of v (drop 2 s))))
