-- The lengths that a variant takes (docs/RULES.md, section 4, step 1; the values are those of `LengthProcessingInfo`).
-- Assumes nothing.
use Rattle.std.specs.Prelude.{ℕ, Bool, true, false, cond, eqb, Result, Ok, Err}
use Rattle.params.specs.Variants.{known}
use Rattle.params.specs.declared.Refusal.{Refusal}
use Rattle.params.specs.declared.Refusal.TheVariants.{UnknownVariant}
use Rattle.length.specs.declared.Limits.{Limits}

-- the shortest length that a variant takes, in the conservative mode or not
unfoldable pub minimum : ℕ → Bool → ℕ
minimum v conservative = cond (eqb v 48) 10 (cond conservative 128 50)

-- the longest, in either mode
unfoldable pub maximum : ℕ → ℕ
maximum v = 4_224_281_216

-- what is answered of a variant
unfoldable pub limits_of : ℕ → Result Limits Refusal
limits_of v =
    cond (known v)
    (Ok (record { minimum = minimum v false; minimum_conservative = minimum v true; maximum = maximum v }))
    (Err UnknownVariant)
