-- What is promised of the numbers and of the two paths, as statements (docs/RULES.md, section 4, step 6, and section 9).
-- Assumes nothing.
use Rattle.std.specs.Prelude.{◌≡◌, ℕ, suc, ◌+◌, ◌*◌, ◌%◌, ◌^◌, ◌<◌, ◌≤◌, true, false, Ok}
use Rattle.params.specs.Words.{apart}
use Rattle.qratios.specs.declared.Ratios.{Ratios}
use Rattle.qratios.specs.Single.{Single, top, bottom, bits, single_from_bits, single}
use Rattle.qratios.specs.Ratios.{integer_whole, floating_whole, ratios_of, byte_answered}

-- ---- the single-precision number nearest to n / d, for an n and a d below 2 ^ 64

-- how far x lies from n / d, times d and times the bottom of x
abbrev pub away : ℕ → ℕ → Single → ℕ
away n d x = apart (top x * d) (n * bottom x)

-- x and y are the same number
abbrev pub Same : Single → Single → Type 0
Same x y = top x * bottom y ≡ top y * bottom x

-- `single n d` has the form that 32 bits give: its bits give it back
abbrev pub BitsGiveBack : Type 0
BitsGiveBack = (n d : ℕ) → 0 < d → n < 2 ^ 64 → d < 2 ^ 64 → single_from_bits (bits (single n d)) ≡ single n d

-- no number with a significand below 16,777,216, and so no f32, lies nearer to n / d; both distances stand over d and both bottoms
abbrev pub NoNearer : Type 0
NoNearer = (n d : ℕ) (y : Single) → 0 < d → n < 2 ^ 64 → d < 2 ^ 64 → y.sig < 16_777_216
    → away n d (single n d) * bottom y ≤ away n d y * bottom (single n d)

-- at a tie, where another such number lies as near, the significand of `single n d` is even
abbrev pub TiesToEven : Type 0
TiesToEven = (n d : ℕ) (y : Single) → 0 < d → n < 2 ^ 64 → d < 2 ^ 64 → y.sig < 16_777_216
    → away n d (single n d) * bottom y ≡ away n d y * bottom (single n d) → (Same (single n d) y → ⊥) → (single n d).sig % 2 ≡ 0

-- ---- the two paths

-- the largest q3 whose product by 100 is below 2 ^ 32
abbrev pub largest_third : ℕ
largest_third = 42_949_672

-- below this every whole number is a single-precision number
abbrev pub exact_below : ℕ
exact_below = 2 ^ 24

-- the largest q3 whose product by 100 is below that
abbrev pub light_third : ℕ
light_third = 167_772

-- the largest q3 up to which both paths give one whole part for every q of at most q3
abbrev pub agreeing_third : ℕ
agreeing_third = 262_146

-- two numbers differ by at most one
abbrev pub WithinOne : ℕ → ℕ → Type 0
WithinOne a b = (a ≤ b + 1) × (b ≤ a + 1)

-- the whole parts of the two paths are equal where 100 * q is exact
abbrev pub ExactWholesAgree : Type 0
ExactWholesAgree = (q q3 : ℕ) → 1 ≤ q3 → q3 < 2 ^ 32 → 100 * q < exact_below → floating_whole q q3 ≡ integer_whole q q3

-- they are equal for every q of at most q3 up to that q3
abbrev pub WholesAgree : Type 0
WholesAgree = (q q3 : ℕ) → 1 ≤ q3 → q3 ≤ agreeing_third → q ≤ q3 → floating_whole q q3 ≡ integer_whole q q3

-- and at the next q3 they differ: 100 * 217,582 is one less than 83 * 262,147, and the quotient rounds up to 83
abbrev pub WholesDiffer : Type 0
WholesDiffer = (floating_whole 217_582 (suc agreeing_third) ≡ 83) × (integer_whole 217_582 (suc agreeing_third) ≡ 82)

-- the whole parts of the two paths are within one where 100 * q does not roll over
abbrev pub PathsWithinOne : Type 0
PathsWithinOne = (q q3 : ℕ) → 1 ≤ q3 → q3 ≤ largest_third → q ≤ q3 → WithinOne (floating_whole q q3) (integer_whole q q3)

-- the same of the whole parts that the entry point's record carries
abbrev pub RecordWithinOne : Type 0
RecordWithinOne = (q1 q2 q3 : ℕ) → q1 ≤ q2 → q2 ≤ q3 → 1 ≤ q3 → q3 ≤ largest_third
    → (r : Ratios) × (ratios_of q1 q2 q3 ≡ Ok r) × WithinOne r.whole1 (integer_whole q1 q3) × WithinOne r.whole2 (integer_whole q2 q3)

-- a light q3 makes 100 * q exact for every q up to it
abbrev pub LightIsExact : Type 0
LightIsExact = (q q3 : ℕ) → q ≤ q3 → q3 ≤ light_third → 100 * q < exact_below

-- both paths give one byte of ratios, or one refusal, up to some q3
abbrev pub BytesAgreeUpTo : ℕ → Type 0
BytesAgreeUpTo most = (q1 q2 q3 : ℕ) → q3 ≤ most → byte_answered true q1 q2 q3 ≡ byte_answered false q1 q2 q3

-- they do at a light q3
abbrev pub BytesAgree : Type 0
BytesAgree = BytesAgreeUpTo light_third

-- and farther, up to the largest q3 at which all whole parts agree
abbrev pub BytesAgreeFarther : Type 0
BytesAgreeFarther = BytesAgreeUpTo agreeing_third

-- and at the next q3 the bytes differ: 82 mod 16 is 2, and 83 mod 16 is 3
abbrev pub BytesDiffer : Type 0
BytesDiffer =
    (byte_answered true 217_582 217_582 (suc agreeing_third) ≡ Ok 34) × (byte_answered false 217_582 217_582 (suc agreeing_third) ≡ Ok 51)
