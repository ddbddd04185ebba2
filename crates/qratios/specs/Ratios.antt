-- The ratios of the first two quartiles to the third, by both paths, and the answers that carry them (docs/RULES.md, section 4, step 6).
-- Assumes nothing.
use Rattle.std.specs.Prelude.{ℕ, ◌+◌, ◌*◌, ◌/◌, ◌%◌, ◌^◌, ◌<◌, ◌≤◌, Bool, cond, ◌&&◌, from_bits, nat_le, Float, Result, Ok, Err}
use Rattle.std.specs.Float.{binary32}
use Rattle.params.specs.declared.Refusal.{Refusal}
use Rattle.params.specs.declared.Refusal.TheVariants.{UnorderedQuartiles}
use Rattle.qratios.specs.declared.Ratios.{Ratios}
use Rattle.qratios.specs.Single.{Single, bits, whole, single, divided}

-- ---- the integer path

-- the whole part of 100 * q / q3
abbrev pub integer_whole : ℕ → ℕ → ℕ
integer_whole q q3 = 100 * q / q3

-- ---- the floating path

-- 100 * q, reduced modulo 2 ^ 32
abbrev pub reduced : ℕ → ℕ
reduced q = 100 * q % 2 ^ 32

-- one rounding at each of three places: that product, q3, their quotient
unfoldable pub quotient : ℕ → ℕ → Single
unfolding single
quotient q q3 = divided (single (reduced q) 1) (single q3 1)

-- the whole part of that quotient
abbrev pub floating_whole : ℕ → ℕ → ℕ
floating_whole q q3 = whole (quotient q q3)

-- ---- the ratios by either path

-- the ratio of q, which is q1 or q2
abbrev pub ratio_by : Bool → ℕ → ℕ → ℕ
ratio_by integer q q3 = cond integer (integer_whole q q3) (floating_whole q q3) % 16

-- both ratios in one byte, q1's in the low four bits
abbrev pub ratios_byte : Bool → ℕ → ℕ → ℕ → ℕ
ratios_byte integer q1 q2 q3 = ratio_by integer q1 q3 + 16 * ratio_by integer q2 q3

-- what the floating path asks of a quartile: q is at most a q3 that is not 0
pub record UpTo (q q3 : ℕ) : Type 0 where
  pub some : 0 < q3
  pub most : q ≤ q3

-- ---- the answers: refused unless q1 ≤ q2 ≤ q3 and q3 ≥ 1

-- q1 ≤ q2 ≤ q3 and q3 ≥ 1
abbrev pub ordered : ℕ → ℕ → ℕ → Bool
ordered q1 q2 q3 = nat_le q1 q2 && nat_le q2 q3 && nat_le 1 q3

-- the f32 of a number
abbrev pub float : Single → Float
float x = from_bits binary32 (bits x)

-- a record of two quotients, and of their whole parts before mod 16
abbrev pub record_of : Single → Single → Ratios
record_of x1 x2 = record { quotient1 = float x1; quotient2 = float x2; whole1 = whole x1; whole2 = whole x2 }

-- the ratio record of three quartiles
unfoldable pub ratios_of : ℕ → ℕ → ℕ → Result Ratios Refusal
ratios_of q1 q2 q3 = cond (ordered q1 q2 q3) (Ok (record_of (quotient q1 q3) (quotient q2 q3))) (Err UnorderedQuartiles)

-- both ratios in one byte, by either path
unfoldable pub byte_answered : Bool → ℕ → ℕ → ℕ → Result ℕ Refusal
byte_answered integer q1 q2 q3 = cond (ordered q1 q2 q3) (Ok (ratios_byte integer q1 q2 q3)) (Err UnorderedQuartiles)
