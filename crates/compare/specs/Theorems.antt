-- What holds of the distance, as statements.
-- Assumes nothing.
use Rattle.std.specs.Prelude.{true, ◌≡◌, ℕ, ◌+◌, ◌*◌, ◌≤◌, ◌<◌, get_or, replicate, Ok}
use Rattle.params.specs.Variants.{known}
use Rattle.hash.specs.declared.Digest.{Digest}
use Rattle.hash.specs.Digest.{same_of}
use Rattle.compare.specs.Distance.{distance_of}

-- either order gives one answer, a refusal too
abbrev pub EitherOrder : Type 0
EitherOrder = (a b : Digest) → distance_of a b ≡ distance_of b a

-- what every record of the program is: its fields are bytes. (Numbers of the definitions may be greater.)
pub record Bytes (d : Digest) : Type 0 where
  pub length_code : d.length_code < 256
  pub ratios : d.ratios < 256
  pub body : (i : ℕ) → get_or d.body i 0 < 256

-- the distance is 0 where the two are the same
abbrev pub ZeroForTheSame : Type 0
ZeroForTheSame = (a b : Digest) → same_of a b ≡ Ok true → distance_of a b ≡ Ok 0

-- and nowhere else
abbrev pub SameForZero : Type 0
SameForZero = (a b : Digest) → Bytes a → Bytes b → distance_of a b ≡ Ok 0
    → same_of a b ≡ Ok true

-- the greatest distance of a variant: 6 for each code, 12 · 128 for the length code, 12 · 7 for each ratio, 1 for the checksum
abbrev pub greatest : ℕ → ℕ
greatest v = 6 * v + 12 * 128 + 2 * (12 * 7) + 1

-- no distance is greater
abbrev pub AtMost : Type 0
AtMost = (a b : Digest) (d : ℕ) → distance_of a b ≡ Ok d → d ≤ greatest a.variant

-- two digests with all codes 0 against 3, and the other fields as far apart as they can be
abbrev pub lowest : ℕ → Digest
lowest v = record { body = replicate 64 0; variant = v; checksum = 0; length_code = 0; ratios = 0 }

abbrev pub highest : ℕ → Digest
highest v = record { body = replicate 64 255; variant = v; checksum = 1; length_code = 128; ratios = 8 + 16 * 8 }

-- in every variant it is reached
abbrev pub Reached : Type 0
Reached = (v : ℕ) → known v ≡ true → distance_of (lowest v) (highest v) ≡ Ok (greatest v)

-- for the short, the normal and the long variant it is
abbrev pub Totals : Type 0
Totals = (greatest 48 ≡ 1_993) × (greatest 128 ≡ 2_473) × (greatest 256 ≡ 3_241)
