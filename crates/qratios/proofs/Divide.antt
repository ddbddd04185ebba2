-- Whole numbers below 2 ^ 32 as single-precision numbers, and the quotient of two of them: both are in reach of `single`.
-- Assumes nothing.
use Rattle.std.proofs.Common.{◌≡◌, ℕ, suc, ◌*◌, ◌^◌, ◌<◌, ◌≤◌, refl, ap, ◌∙◌, inl, inr, le_trans, lt_of_lt_of_le, lt_of_le_of_lt, le_of_lt, mul-le-mul_right, zero-lt-suc, mul-le-mul, mul-lt-mul_of_pos_right, mul-pos, zero-mul, arith, lit<, lit≤, pow_pos, pow_mono}
use native.Mathlib.Nat.{pow-succ'}
use Rattle.qratios.specs.Single.{Single, nought, top, bottom, single, divided}
use Rattle.qratios.specs.Ratios.{reduced, quotient}
use Rattle.qratios.proofs.Shape.{Shape, shape, single_zero}
use Rattle.qratios.proofs.Carry.{carries}

-- ---- how far the powers of two of n go
module _ (n : ℕ) (x : Single) (N : 0 < n) (small : n < 2 ^ 32) (h : Shape n 1 x) where
  -- it is halved at most nine times
  up_le : 2 ^ h.u ≤ 512
  up_le = elim h.one_side [
    | inl z ↦ rw z (lit≤ tt)
    | inr z ↦ let l : 8388608 * (1 * 2 ^ h.u) ≤ n * 1 = rw z at h.lo in omega arith
  ]

  -- it is doubled at most 24 times
  down_le : 2 ^ h.v ≤ 16777216
  down_le = elim h.one_side [
    | inl z ↦
        let l : n * 2 ^ h.v < 16777216 * (1 * 1) = rw z at h.hi in
        let k : 1 * 2 ^ h.v ≤ n * 2 ^ h.v = mul-le-mul_right (2 ^ h.v) N in
        omega arith
    | inr z ↦ rw z (lit≤ tt)
  ]

  -- its top is below 2 ^ 34
  top_lt : top x < 2 ^ 34
  top_lt =
      let c = carries n 1 x h in
      let t : 2 ^ x.times ≤ 2 ^ suc h.u = pow_mono c.times_le in
      let s : top x < 16777216 * 2 ^ x.times = mul-lt-mul_of_pos_right c.sig_lt (pow_pos x.times) in
      omega (arith, pow-succ' 2 h.u, up_le)

  -- its bottom is at most 2 ^ 24
  bottom_le : bottom x ≤ 16777216
  bottom_le = le_trans (pow_mono (carries n 1 x h).over_le) down_le

  -- its top is not 0
  pub top_pos : 0 < top x
  top_pos = mul-pos (lt_of_lt_of_le (lit< tt) (carries n 1 x h).sig_ge) (pow_pos x.times)

-- ---- the shapes

-- a whole number from 1 to 2 ^ 32 - 1
pub shape_whole : (n : ℕ) → 0 < n → n < 2 ^ 32 → Shape n 1 (single n 1)
shape_whole n N h = shape n 1 N (zero-lt-suc 0) (omega arith) (lit< tt)

-- a top times a bottom is below 2 ^ 64
product_lt : (t u : ℕ) → t < 2 ^ 34 → u ≤ 16777216 → t * u < 2 ^ 64
product_lt t u h k = lt_of_le_of_lt (mul-le-mul (le_of_lt h) k) (lit< tt)

-- the quotient of two of them
pub shape_divided : (p r : ℕ) → 0 < p → p < 2 ^ 32 → 0 < r → r < 2 ^ 32
    → Shape (top (single p 1) * bottom (single r 1)) (top (single r 1) * bottom (single p 1)) (divided (single p 1) (single r 1))
shape_divided p r P p-lt R r-lt =
    let a = single p 1 in
    let b = single r 1 in
    let h = shape_whole p P p-lt in
    let k = shape_whole r R r-lt in
    shape (top a * bottom b) (top b * bottom a)
    (mul-pos (top_pos p a P p-lt h) (pow_pos b.over))
    (mul-pos (top_pos r b R r-lt k) (pow_pos a.over))
    (product_lt (top a) (bottom b) (top_lt p a P p-lt h) (bottom_le r b R r-lt k))
    (product_lt (top b) (bottom a) (top_lt r b R r-lt k) (bottom_le p a P p-lt h))

-- 0 over any number is 0
pub divided_zero : (y : Single) → divided nought y ≡ nought
divided_zero y = rw (zero-mul (bottom y)) (single_zero (top y * 1))

-- ---- the floating path's quotient

-- the quotient, from the reduced product
pub quotient_is : (q r p : ℕ) → reduced q ≡ p → quotient q r ≡ divided (single p 1) (single r 1)
unfolding quotient
quotient_is q r p e = rw e

-- a q of 0 has the quotient 0
pub quotient_zero : (r : ℕ) → quotient 0 r ≡ nought
quotient_zero r = quotient_is 0 r 0 refl ∙ ap (λ y. divided y (single r 1)) (single_zero 1) ∙ divided_zero (single r 1)
