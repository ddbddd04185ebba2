-- The whole part from the bits: what the code works out of 32 bits below those of 2 ^ 24, and that the floating path's quotients have such.
-- Assumes nothing.
use Rattle.std.proofs.Common.{◌≡◌, ℕ, suc, ◌+◌, ◌-◌, ◌*◌, ◌/◌, ◌%◌, ◌^◌, ◌<◌, ◌≤◌, false, not, T, pos, sym, refl, ap, ◌∙◌, inl, inr, le_trans, lt_of_lt_of_le, le_of_suc-le-suc, mul-le-mul_right, mod-lt, mul_comm, div-lt_iff_lt-mul, eq-zero-or-pos, mul-le-mul_left, lt_of_not-le, mul-one, arith, lit<, pow_pos, pow_mono, le-ltb, lt-ltb}
use native.Mathlib.Nat.{div-eq_of_lt, div-le_of_le-mul, mod-le, pow-succ'}
use lib.Bits.{bit_and, bit_or, and_mask, or_shifted_r}
use lib.Ieee.{Float, nan, inf, fin, binary32, is_nan, to_bits, of_int, to_unsigned, div}
use lib.Ieee.Bits.{to_bits-of_bits}
use lib.Ieee.Exact.{HasValue}
use Rattle.qratios.specs.Single.{Single, nought, top, bottom, whole, bits, single_from_bits, single, divided}
use Rattle.qratios.specs.Ratios.{float, reduced, quotient, floating_whole}
use Rattle.qratios.proofs.Rounding.{below_or_not}
use Rattle.qratios.proofs.Shape.{single_zero}
use Rattle.qratios.proofs.Carry.{Normal, normal, normal_bits, normal_back}
use Rattle.qratios.proofs.Divide.{shape_divided, divided_zero, quotient_is}
use Rattle.qratios.proofs.Errors.{close_quotient}
use Rattle.qratios.proofs.Ieee.{float_value, zero_value, quotient_ieee, truncated_value}

-- ---- what the code works out of the bits

-- the significand over the power of two that the eight bits give
whole_of_fields : (b : ℕ) → 8388608 ≤ b → b < 0x4b80_0000 → whole (single_from_bits b) ≡ (8388608 + b % 8388608) / 2 ^ (150 - b / 8388608)
whole_of_fields b lo hi =
    let flat : b / 8388608 - 150 ≡ 0 = omega arith in
    rw (le-ltb b 8388608 lo, flat, mul-one (8388608 + b % 8388608))

-- below the bits of 1 there is no whole part
pub whole_below_one : (b : ℕ) → b < 0x3f80_0000 → 0 ≡ whole (single_from_bits b)
whole_below_one b h =
    elim (below_or_not b 8388608) [
      | inl l ↦ rw (lt-ltb b 8388608 l)
      | inr g ↦
          let deep : 2 ^ 24 ≤ 2 ^ (150 - b / 8388608) = pow_mono {i = 24} (omega arith) in
          let small : 8388608 + b % 8388608 < 2 ^ 24 = omega arith in
          sym (whole_of_fields b g (omega arith) ∙ div-eq_of_lt (lt_of_lt_of_le small deep))
    ]

-- a mask and an `or` give the significand
significand_is : (b : ℕ) → bit_or (bit_and b 8388607) 8388608 ≡ 8388608 + b % 8388608
significand_is b = ap (λ k. bit_or k (2 ^ 23)) (and_mask b 23) ∙ or_shifted_r 1 23 (b % 2 ^ 23) (mod-lt b (pow_pos 23))

-- from there on it is the significand, shifted
pub whole_from_one : (b : ℕ) → 0x3f80_0000 ≤ b → b < 0x4b80_0000
    → bit_or (bit_and b 8388607) 8388608 / 2 ^ (150 - b / 8388608) ≡ whole (single_from_bits b)
whole_from_one b lo hi = rw (significand_is b) (sym (whole_of_fields b (omega arith) hi))

-- ---- a number with a whole part below 2 ^ 24 has bits below those of 2 ^ 24
low_bits : (x : Single) → Normal x → whole x < 16777216 → bits x < 0x4b80_0000
low_bits x h small = rw (normal_bits x h.sig_ge) (omega (arith, h.sig_lt, h.over_le, flat))
  where
    flat : x.times ≤ x.over
    flat = le_of_suc-le-suc (lt_of_not-le (λ (g : suc x.over ≤ x.times).
        let a : top x < 16777216 * bottom x = (div-lt_iff_lt-mul (pow_pos x.over)).0 small in
        let b : 8388608 * 2 ^ x.times ≤ top x = mul-le-mul_right (2 ^ x.times) h.sig_ge in
        let c : 2 ^ suc x.over ≤ 2 ^ x.times = pow_mono g in
        omega (arith, pow-succ' 2 x.over)))

-- ---- what the code asks of a number, and gets

-- its float is no NaN, has its bits, and gives its whole part
pub record Truncates (x : Single) : Type 0 where
  pub no_nan : T (not (is_nan (float x)))
  pub back : to_bits binary32 (float x) ≡ bits x
  pub low : bits x < 0x4b80_0000
  pub is : single_from_bits (bits x) ≡ x
  pub ieee : to_unsigned 32 (float x) ≡ whole x

-- what has a value is no NaN
valued_no_nan : (z : Float) (a c : ℕ) → HasValue z false a c → T (not (is_nan z))
unfolding is_nan
valued_no_nan nan a c h = absurd h
valued_no_nan (inf s) a c h = tt
valued_no_nan (fin s m e) a c h = tt

-- it does where its whole part is below 2 ^ 24
truncates_value : (x : Single) → HasValue (float x) false (top x) (bottom x) → bits x < 0x4b80_0000 → single_from_bits (bits x) ≡ x
    → whole x < 16777216 → Truncates x
truncates_value x v low is small =
    let n = valued_no_nan (float x) (top x) (bottom x) v in
    record {
      no_nan = n;
      back = to_bits-of_bits binary32 (bits x) (omega arith) n;
      low = low;
      is = is;
      ieee = truncated_value (float x) (top x) (bottom x) (pow_pos x.over) (omega arith) v;
    }

-- 0 does
pub truncates_nought : Truncates nought
truncates_nought = truncates_value nought (zero_value 1) (lit< tt) refl (lit< tt)

-- a quotient up to 100 of two whole numbers does
truncates_quotient : (p r : ℕ) → p < 2 ^ 32 → 0 < r → r < 2 ^ 32 → p ≤ 100 * r → Truncates (divided (single p 1) (single r 1))
truncates_quotient p r p-lt R r-lt h =
    elim (eq-zero-or-pos p) [
      | inl z ↦ rw (z, single_zero 1, divided_zero (single r 1)) truncates_nought
      | inr P ↦
          let x = divided (single p 1) (single r 1) in
          let A = top (single p 1) * bottom (single r 1) in
          let B = top (single r 1) * bottom (single p 1) in
          let k = normal A B x (shape_divided p r P p-lt R r-lt) in
          let w : p / r ≤ 100 = div-le_of_le-mul r (rw (mul_comm r 100) h) in
          let small : whole x < 16777216 = omega (arith, (close_quotient p r P p-lt R r-lt h).0) in
          truncates_value x (float_value x k) (low_bits x k small) (normal_back x k) small
    ]

-- the floating path's quotients
pub truncates : (q q3 : ℕ) → 0 < q3 → q3 < 2 ^ 32 → q ≤ q3 → Truncates (quotient q q3)
truncates q q3 R r-lt h =
    let p : reduced q ≤ 100 * q3 = le_trans (mod-le (100 * q) (2 ^ 32)) (mul-le-mul_left 100 h) in
    rw (quotient_is q q3 (reduced q) refl) (truncates_quotient (reduced q) q3 (mod-lt (100 * q) (lit< tt)) R r-lt p)

-- the floating path's whole part, in the logic's account of IEEE 754: two conversions, a division, a truncation
pub whole_ieee : (q q3 : ℕ) → 0 < q3 → q3 < 2 ^ 32 → q ≤ q3
    → to_unsigned 32 (div binary32 (of_int binary32 (pos (reduced q))) (of_int binary32 (pos q3))) ≡ floating_whole q q3
whole_ieee q q3 R r-lt h = rw (quotient_ieee q q3 R r-lt) (truncates q q3 R r-lt h).ieee

-- ---- of a float that is a definition's number

-- its bits are low
pub low_of_float : (x : Float) (y : Single) → Truncates y → x ≡ float y → to_bits binary32 x < 0x4b80_0000
low_of_float x y k e = rw (e, k.back) k.low

-- and give its whole part
pub whole_of_float : (x : Float) (y : Single) → Truncates y → x ≡ float y → whole (single_from_bits (to_bits binary32 x)) ≡ whole y
whole_of_float x y k e = rw (e, k.back, k.is)

-- bits below those of 2 ^ 24 are no NaN's
pub low_no_nan : (x : Float) → to_bits binary32 x < 0x4b80_0000 → T (not (is_nan x))
unfolding to_bits is_nan
low_no_nan nan h = absurd (no h)
  where
    no : 0x7fc0_0000 < 0x4b80_0000 → ⊥
    no g = omega arith
low_no_nan (inf s) h = tt
low_no_nan (fin s m e) h = tt
