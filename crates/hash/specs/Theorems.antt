-- What holds of sameness, as statements (docs/RULES.md, section 5): it is an equivalence, and equality for records that the port makes.
-- Assumes nothing.
use Rattle.std.specs.Prelude.{Bool, true, ◌≡◌, Result, Ok}
use Rattle.params.specs.Variants.{known}
use Rattle.params.specs.declared.Refusal.{Refusal}
use Rattle.hash.specs.declared.Digest.{Digest}
use Rattle.hash.specs.Digest.{Made, same_of}

-- the answer that both are the same
abbrev pub are_same : Result Bool Refusal
are_same = Ok true

-- a digest of a known variant is the same as itself
abbrev pub SameReflexive : Type 0
SameReflexive = (a : Digest) → known a.variant ≡ true → same_of a a ≡ are_same

-- either order gives one answer
abbrev pub SameSymmetric : Type 0
SameSymmetric = (a b : Digest) → same_of a b ≡ same_of b a

-- two that are the same as one are the same
abbrev pub SameTransitive : Type 0
SameTransitive = (a b c : Digest) → same_of a b ≡ are_same → same_of b c ≡ are_same → same_of a c ≡ are_same

-- of records that the port makes, those that are the same are equal
abbrev pub SameEqual : Type 0
SameEqual = (a b : Digest) → Made a → Made b → same_of a b ≡ are_same → a ≡ b

-- and those that are equal are the same
abbrev pub EqualSame : Type 0
EqualSame = (a b : Digest) → Made a → a ≡ b → same_of a b ≡ are_same
