-- The option number (docs/RULES.md, section 7): 1 conservative, 2 integer ratios, 4 small, 8 half, 16 quarter, added.
-- Assumes nothing.
use Rattle.std.specs.Prelude.{ℕ, ◌/◌, ◌%◌, Bool, false, cond, ltb, eqb, Result, Ok, Err}
use Rattle.params.specs.declared.Refusal.{Refusal}
use Rattle.params.specs.declared.Refusal.TheVariants.{UnknownOption}
use Rattle.options.specs.declared.Options.{Options}

-- the five flags as one record
abbrev pub flags : Bool → Bool → Bool → Bool → Bool → Options
flags c i s h q = record { conservative = c; integer = i; small = s; half = h; quarter = q }

-- no flag is set
abbrev pub clear : Options
clear = flags false false false false false

-- whether the number has the flag that counts w
abbrev pub has : ℕ → ℕ → Bool
has w n = eqb (n / w % 2) 1

-- the greatest option number: all five flags
abbrev pub most_options : ℕ
most_options = 31

-- a number above it has a bit that is no flag's
abbrev pub has_unknown_bit : ℕ → Bool
has_unknown_bit n = ltb most_options n

-- the flags of a known number; 10 for any other
unfoldable pub chosen : ℕ → Result Options Refusal
chosen n =
    cond (has_unknown_bit n)
    (Err UnknownOption)
    (Ok (flags (has 1 n) (has 2 n) (has 4 n) (has 8 n) (has 16 n)))
