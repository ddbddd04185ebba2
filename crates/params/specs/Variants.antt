-- The three variants (docs/RULES.md, section 1). A variant is its number of used buckets.
-- Assumes nothing.
use Rattle.std.specs.Prelude.{ℕ, Bool, false, ◌≡◌, ◌||◌, eqb, Result, MatchResult}
use Rattle.params.specs.declared.Variant.{Variant}
use Rattle.params.specs.declared.Variant.TheVariants.{Short, Normal, Long}
use Rattle.params.specs.declared.Refusal.{Refusal}
use Rattle.params.specs.declared.Refusal.TheVariants.{UnknownVariant}

-- one of the three
unfoldable pub known : ℕ → Bool
known v = eqb v 48 || eqb v 128 || eqb v 256

-- the number of each
abbrev pub buckets : Variant → ℕ
buckets Short = 48
buckets Normal = 128
buckets Long = 256

-- r is the variant that has the number n, or n is none of the three numbers
abbrev pub Names : ℕ → Result Variant Refusal → Type 0
Names n r = MatchResult r (λ v. n ≡ buckets v) (λ e. (e ≡ UnknownVariant) × (known n ≡ false))
