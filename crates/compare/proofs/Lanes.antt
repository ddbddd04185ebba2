-- `word_cost` and `total`: the word of eight costs, and the sum of a word's bytes, as the code computes them.
-- Assumes nothing.
use mathlib.Core.Path.{◌≡◌, refl, sym, ◌∙◌, ap, ap₂}
use Prim.Native.Nat.{ℕ, zero, suc, ◌+◌, ◌-◌, ◌*◌, ◌/◌, ◌%◌, ◌^◌, ◌≤◌, ◌<◌}
use native.Mathlib.Nat.{lt_of_le_of_lt, mul-le-mul_right}
use native.Mathlib.Omega.{arith}
use lib.Dec.{lit<}
use lib.Pow.{add-lt-pow}
use lib.Bits.{bit_xor, and_le_r}
use mir.Syntax.{w64}
use mir.Val.{Fits}
use Rattle.compare.specs.Lanes.{lane_costs, lane_sum}
use Rattle.compare.proofs.Costs.{byte_most}
use Rattle.compare.proofs.Halves.{lows, halves, added, added_halves}
use Rattle.compare.proofs.Planes.{fives, both, ends, plain, twice, summed_costs, pair_costs, pairs_fit, pairs_lanes, double}

-- ---- the masks: the low bit of each code, the low code of each half byte, the low half of each byte, the low byte of each two

abbrev bits : ℕ
bits = 0x5555_5555_5555_5555

abbrev codes : ℕ
codes = 0x3333_3333_3333_3333

abbrev digits : ℕ
digits = 0x0f0f_0f0f_0f0f_0f0f

abbrev bytes : ℕ
bytes = 0x00ff_00ff_00ff_00ff

-- ---- the word of costs

-- what is taken away from z is there
pub once_in : (z : ℕ) → both bits z ≤ z
unfolding fives
once_in z = omega (arith, twice 16 z)

pub twice_in : (z : ℕ) → both bits z ≤ z - both bits z
unfolding fives
twice_in z = omega (arith, twice 16 z)

-- the sums of codes, in half bytes
abbrev sums : ℕ → ℕ → ℕ
sums x y = added codes 2 (plain bits (bit_xor x y)) + 5 * added codes 2 (ends bits (both bits (bit_xor x y)) x)

sums_costs : (x y : ℕ) → sums x y ≡ pair_costs 16 x y
unfolding fives lows
sums_costs x y =
    ap₂ (λ (p q : ℕ). p + 5 * q) (added_halves codes 2 16 (plain bits (bit_xor x y)) refl)
    (added_halves codes 2 16 (ends bits (both bits (bit_xor x y)) x) refl)
    ∙ summed_costs 16 x y

-- nothing leaves the 64 bits: two halves of a mask below 2^63, and up to 5 times the codes 0 and 3
added_fits : (mask k y : ℕ) → mask < 2 ^ 63 → Fits w64 (added mask k y)
added_fits mask k y h =
    record { fits = add-lt-pow 63 (lt_of_le_of_lt (and_le_r y mask) h) (lt_of_le_of_lt (and_le_r (y / 2 ^ k) mask) h) }

abbrev far : ℕ → ℕ → ℕ
far x y = added codes 2 (ends bits (both bits (bit_xor x y)) x)

times_fit : (x y k : ℕ) → k ≤ 5 → added codes 2 (plain bits (bit_xor x y)) + k * far x y < 2 ^ 64
times_fit x y k h =
    let s : sums x y < 2 ^ 64 = rw (sums_costs x y) (pairs_fit 16 x y) in
    omega (arith, s, mul-le-mul_right (far x y) h)

pub near_fits : (y : ℕ) → Fits w64 (added codes 2 y)
near_fits y = added_fits codes 2 y (lit< tt)

pub costs_fit : (y : ℕ) → Fits w64 (added digits 4 y)
costs_fit y = added_fits digits 4 y (lit< tt)

pub sums_fit : (x y k : ℕ) → k ≤ 5 → Fits w64 (added codes 2 (plain bits (bit_xor x y)) + k * far x y)
sums_fit x y k h = record { fits = times_fit x y k h }

pub far_fits : (x y k : ℕ) → k ≤ 5 → Fits w64 (k * far x y)
far_fits x y k h = record { fits = omega (arith, times_fit x y k h) }

-- it is the word of the eight costs
pub word_costs : (x y : ℕ) → added digits 4 (sums x y) ≡ lane_costs 8 x y
unfolding lows
word_costs x y = added_halves digits 4 8 (sums x y) refl ∙ ap (halves 4 8) (sums_costs x y) ∙ pairs_lanes 8 x y

-- n bytes 1
unfoldable ones : ℕ → ℕ
ones zero = 0
ones (suc n) = ones n * 256 + 1

lanes_most : (n x y : ℕ) → lane_costs n x y ≤ 24 * ones n
unfolding lane_costs ones
lanes_most zero x y = omega arith
lanes_most (suc n) x y = omega (arith, byte_most x y, lanes_most n (x / 256) (y / 256))

-- none of which is above 24
pub word_most : (x y : ℕ) → added digits 4 (sums x y) ≤ 1_736_164_148_113_840_152
unfolding ones
word_most x y = rw (word_costs x y) (lanes_most 8 x y)

-- ---- the sum of a word's bytes

-- by twos
unfoldable twos : ℕ → ℕ → ℕ
twos zero s = 0
twos (suc m) s = (s % 256 + s / 256 % 256) + twos m (s / 65536)

by_twos : (m s : ℕ) → lane_sum (double m) s ≡ twos m s
unfolding lane_sum twos
by_twos zero s = refl
by_twos (suc m) s =
    let e : s / 256 / 256 ≡ s / 65536 = omega arith in
    rw e (omega (arith, by_twos m (s / 65536)))

-- four fields of 16 bits folded onto the lowest
abbrev folded : ℕ → ℕ
folded t = (t + t / 4294967296 + (t + t / 4294967296) / 65536) % 65536

fold_four : (a b c d : ℕ) → a ≤ 510 → b ≤ 510 → c ≤ 510 → d ≤ 510
    → folded ((((0 * 65536 + d) * 65536 + c) * 65536 + b) * 65536 + a) ≡ a + (b + (c + (d + 0)))
fold_four a b c d h i j k =
    let t : ℕ = (((0 * 65536 + d) * 65536 + c) * 65536 + b) * 65536 + a in
    let e : t / 4294967296 ≡ c + 65536 * d = omega arith in
    let f : (t + (c + 65536 * d)) / 65536 ≡ b + d + 65536 * (c + 65536 * d) = omega arith in
    let w : ℕ = a + (b + (c + (d + 0))) in
    let q : ℕ = 4294967296 * d + 65536 * c + b + d + c + 65536 * d in
    let g : t + (c + 65536 * d) + (b + d + 65536 * (c + 65536 * d)) ≡ w + 65536 * q = omega arith in
    rw (e, f, g) (lowest w q (omega arith))
  where
    lowest : (w q : ℕ) → w < 65536 → (w + 65536 * q) % 65536 ≡ w
    lowest w q h = omega arith

two_most : (s : ℕ) → s % 256 + s / 256 % 256 ≤ 510
two_most s = omega arith

-- is the sum of its bytes
pub total_sum : (s : ℕ) → folded (added bytes 8 s) ≡ lane_sum 8 s
unfolding lows halves twos
total_sum s =
    let s₁ = s / 65536 in
    let s₂ = s₁ / 65536 in
    let s₃ = s₂ / 65536 in
    ap folded (added_halves bytes 8 4 s refl)
    ∙ fold_four (s % 256 + s / 256 % 256) (s₁ % 256 + s₁ / 256 % 256) (s₂ % 256 + s₂ / 256 % 256) (s₃ % 256 + s₃ / 256 % 256)
    (two_most s) (two_most s₁) (two_most s₂) (two_most s₃)
    ∙ sym (by_twos 4 s)

sum_most : (n s : ℕ) → lane_sum n s ≤ 255 * n
unfolding lane_sum
sum_most zero s = omega arith
sum_most (suc n) s = omega (arith, sum_most n (s / 256))

pub total_most : (s : ℕ) → folded (added bytes 8 s) ≤ 2040
total_most s = rw (total_sum s) (sum_most 8 s)

-- nothing leaves the 64 bits
pub total_fits : (s : ℕ) → Fits w64 (added bytes 8 s)
total_fits s = added_fits bytes 8 s (lit< tt)

pub first_fits : (s : ℕ) → Fits w64 (added bytes 8 s + added bytes 8 s / 4294967296)
first_fits s = record { fits = omega (arith, and_le_r s bytes, and_le_r (s / 256) bytes) }

pub second_fits : (s : ℕ)
    → Fits w64 (added bytes 8 s + added bytes 8 s / 4294967296 + (added bytes 8 s + added bytes 8 s / 4294967296) / 65536)
second_fits s = record { fits = omega (arith, and_le_r s bytes, and_le_r (s / 256) bytes) }
