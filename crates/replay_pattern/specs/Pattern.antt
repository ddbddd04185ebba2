-- Patterns of the stored list (host/README.md, The stored list): what is one, and its bytes again and again.
-- Assumes nothing.
use Rattle.std.specs.Prelude.{Bool, false, cond, List, ℕ, ◌+◌, ◌*◌, ◌/◌, ◌%◌, ltb, eqb, length, get_or}
use Rattle.parse.specs.Reading.{is_digit, value_of, all_digits}

-- a pattern: one to 64 bytes, two digits for each
unfoldable pub is_pattern : List ℕ → Bool
is_pattern s =
    cond (ltb (length s) 2) false
    (cond (ltb 128 (length s)) false
    (cond (eqb (length s % 2) 0) (all_digits s) false))

-- the value of a hexadecimal digit; a pattern has no other characters
unfoldable pub hex_of : ℕ → ℕ
hex_of c = cond (is_digit c) (value_of c) 0

-- byte j of a pattern, two digits for each byte, the high one first
unfoldable pub pair_of : List ℕ → ℕ → ℕ
pair_of digits j = 16 * hex_of (get_or digits (2 * j) 0) + hex_of (get_or digits (2 * j + 1) 0)

-- byte i of a pattern again and again
unfoldable pub repeated : List ℕ → ℕ → ℕ
repeated digits i = cond (eqb (length digits / 2) 0) 0 (pair_of digits (i % (length digits / 2)))
