-- Below 2 ^ 24 every whole number is exact, and the whole part of a rounded quotient is that of the quotient itself. So both paths give
-- one whole part where 100 * q is below 2 ^ 24.
-- Assumes nothing.
use Rattle.std.proofs.Common.{◌≡◌, ℕ, suc, ◌+◌, ◌*◌, ◌/◌, ◌^◌, ◌<◌, ◌≤◌, ◌⊎◌, sym, ap, ◌∙◌, inl, inr, le_of_eq, le_refl, lt_of_lt_of_le, le_of_suc-le-suc, mul-le-mul_right, mod-eq_of_lt, mul_assoc, suc-mul, mul_comm, div-lt_iff_lt-mul, add-mul, eq-zero-or-pos, le_antisymm, lt_of_mul-lt-mul_right, mul-le-mul_left, mul-lt-mul_of_pos_right, mul-pos, le-div_iff_mul-le, mul-one, mul_right_comm, div-mul-le_self, le_of_mul-le-mul_right, mul_left_comm, arith, lit<, pow_pos}
use native.Mathlib.Nat.{div-eq_of_lt}
use native.Mathlib.Nat.{eq_of_mul-eq-mul_right}
use lib.Ieee.Nearest.{div_same}
use Rattle.qratios.specs.Single.{Single, top, bottom, whole, single, divided}
use Rattle.qratios.specs.Ratios.{integer_whole, floating_whole}
use Rattle.qratios.proofs.Rounding.{Half, below_or_not}
use Rattle.qratios.proofs.Shape.{Shape, near}
use Rattle.qratios.proofs.Carry.{carries}
use Rattle.qratios.proofs.Divide.{top_pos, shape_whole, shape_divided, quotient_is, quotient_zero}

-- a number is below the next multiple
pub below_next : (n d : ℕ) → 0 < d → n < suc (n / d) * d
below_next n d D = (div-lt_iff_lt-mul D).0 (le_refl (suc (n / d)))

-- ---- the rounding of a / b, where a / b is at most an n / d whose n is below 2 ^ 24
module _ (a b n d : ℕ) (B : 0 < b) (D : 0 < d) (small : n < 16777216) (most : a * d ≤ n * b) where
  -- a lower end of the significand, from a / b to n / d
  low_end : (c q p : ℕ) → c * (b * q) ≤ a * p → c * (d * q) ≤ n * p
  low_end c q p g =
      let l : c * (d * q) * b ≡ c * (b * q) * d = simp (mul_assoc, mul_comm, mul_left_comm) in
      let i : c * (b * q) * d ≤ a * p * d = mul-le-mul_right d g in
      let j : a * d * p ≤ n * b * p = mul-le-mul_right p most in
      le_of_mul-le-mul_right {m = c * (d * q)} {n = n * p} {k = b} (omega (arith, mul_right_comm a p d, mul_right_comm n b p)) B

  -- its rounding, from a / b to n / d
  high_half : (s q p : ℕ) → 2 * (s * (b * q)) ≤ 2 * (a * p) + b * q → 2 * (s * (d * q)) ≤ 2 * (n * p) + d * q
  high_half s q p g =
      let l : 2 * (s * (d * q)) * b ≡ 2 * (s * (b * q)) * d = simp (mul_assoc, mul_comm, mul_left_comm) in
      let e : 2 * (a * p) * d ≡ 2 * (a * d * p) = simp (mul_assoc, mul_comm, mul_left_comm) in
      let f : b * q * d ≡ d * q * b = simp (mul_assoc, mul_comm, mul_left_comm) in
      let k : 2 * (n * p) * b ≡ 2 * (n * b * p) = simp (mul_assoc, mul_comm, mul_left_comm) in
      let i : 2 * (s * (b * q)) * d ≤ (2 * (a * p) + b * q) * d = mul-le-mul_right d g in
      let j : a * d * p ≤ n * b * p = mul-le-mul_right p most in
      le_of_mul-le-mul_right {m = 2 * (s * (d * q))} {n = 2 * (n * p) + d * q} {k = b}
      (omega (arith, add-mul (2 * (a * p)) (b * q) d, add-mul (2 * (n * p)) (d * q) b)) B

  -- with n / d below k + 1, the rounded s * q / p is too
  stays_below : (s q p k : ℕ) → 0 < p → 8388608 * (d * q) ≤ n * p → 2 * (s * (d * q)) ≤ 2 * (n * p) + d * q → n < suc k * d
      → s * q < suc k * p
  stays_below s q p k P lo h g =
      let i : n * p < 16777216 * p = mul-lt-mul_of_pos_right small P in
      let j : suc n * p ≤ suc k * d * p = mul-le-mul_right p g in
      let e : s * q * d ≡ s * (d * q) = simp (mul_assoc, mul_comm, mul_left_comm) in
      lt_of_mul-lt-mul_right d (omega (arith, suc-mul n p, mul_right_comm (suc k) p d))

  module _ (x : Single) (h : Shape a b x) where
    -- the whole part, before the carry
    pub whole_is : whole x ≡ h.s * 2 ^ h.u / 2 ^ h.v
    whole_is = div_same (top x) (bottom x) (h.s * 2 ^ h.u) (2 ^ h.v) (pow_pos x.over) (pow_pos h.v) (carries a b x h).value

    -- it is at most that of n / d
    pub whole_le : whole x ≤ n / d
    whole_le = rw whole_is (le_of_suc-le-suc ((div-lt_iff_lt-mul (pow_pos h.v)).1 less))
      where
        less : h.s * 2 ^ h.u < suc (n / d) * 2 ^ h.v
        less =
            stays_below h.s (2 ^ h.u) (2 ^ h.v) (n / d) (pow_pos h.v) (low_end 8388608 (2 ^ h.u) (2 ^ h.v) h.lo)
            (high_half h.s (2 ^ h.u) (2 ^ h.v) (near a b x h B).0) (below_next n d D)

    -- n below 2 ^ 24 needs no halving
    pub no_halving : 2 ^ h.u ≡ 1
    no_halving = elim h.one_side [
      | inl z ↦ rw z
      | inr z ↦
          let l : 8388608 * (d * 2 ^ h.u) ≤ n * 1 = rw z at (low_end 8388608 (2 ^ h.u) (2 ^ h.v) h.lo) in
          let k : 1 * 2 ^ h.u ≤ d * 2 ^ h.u = mul-le-mul_right (2 ^ h.u) D in
          let o : 0 < 2 ^ h.u = pow_pos h.u in
          omega arith
    ]

    -- it is no less than a whole number that a / b is no less than
    pub whole_ge : (k : ℕ) → k * b ≤ a → k ≤ whole x
    whole_ge k g =
        let p = 2 ^ h.v in
        let w : 2 * (a * p) ≤ 2 * (h.s * (b * 1)) + b * 1 = rw no_halving at (near a b x h B).1 in
        let i : k * b * p ≤ a * p = mul-le-mul_right p g in
        let j : k * p * b < suc h.s * b = omega (arith, mul_right_comm k p b, mul-one b, suc-mul h.s b) in
        let o : k * p ≤ h.s = le_of_suc-le-suc (lt_of_mul-lt-mul_right b j) in
        rw (whole_is, no_halving, mul-one h.s) ((le-div_iff_mul-le (pow_pos h.v)).1 o)

-- ---- whole numbers

-- one below 2 ^ 24 is such a number itself
pub exact : (n : ℕ) (x : Single) → Shape n 1 x → n < 16777216 → top x ≡ n * bottom x
exact n x h small =
    let p = 2 ^ h.v in
    let e : 2 ^ h.u ≡ 1 = no_halving n 1 n 1 (lit< tt) (lit< tt) small (le_refl (n * 1)) x h in
    let w : Half (n * p) (1 * 1) h.s = rw e at (near n 1 x h (lit< tt)) in
    let s_is : h.s ≡ n * p = omega (arith, w.0, w.1) in
    eq_of_mul-eq-mul_right p (pow_pos h.v) (top x) (n * bottom x)
    ((carries n 1 x h).value ∙ rw (e, mul-one h.s, s_is) (mul_right_comm n p (bottom x)))

-- one from 2 ^ 24 on gives a number from 2 ^ 24 on
large : (n : ℕ) (x : Single) → Shape n 1 x → 16777216 ≤ n → 16777216 * bottom x ≤ top x
large n x h big =
    let p = 2 ^ h.v in
    let q = 2 ^ h.u in
    let g : 16777216 * p ≤ h.s * q = elim h.one_side [
      | inl z ↦
          let i : n * p < 16777216 * (1 * 1) = rw z at h.hi in
          let j : 16777216 * p ≤ n * p = mul-le-mul_right p big in
          let k : 0 < p = pow_pos h.v in
          absurd (omega arith)
      | inr z ↦
          let i : n * 1 < 16777216 * (1 * q) = rw z at h.hi in
          let j : 8388608 * q ≤ h.s * q = mul-le-mul_right q h.s_ge in
          rw z (omega arith)
    ] in
    let l : 16777216 * p * bottom x ≤ h.s * q * bottom x = mul-le-mul_right (bottom x) g in
    le_of_mul-le-mul_right (rw ((carries n 1 x h).value, mul_right_comm 16777216 (bottom x) p) l) (pow_pos h.v)

-- ---- the quotient of p and r

-- where both are exact, it is no less than the whole part of p / r
pub no_less : (p r : ℕ) (a b : Single) → top a ≡ p * bottom a → top b ≡ r * bottom b → p / r * (top b * bottom a) ≤ top a * bottom b
no_less p r a b p_is r_is =
    let m = mul-le-mul_right (bottom a * bottom b) (div-mul-le_self p r) in
    rw (p_is, r_is) (rw (arrange (p / r) r (bottom a) (bottom b), mul_assoc p (bottom a) (bottom b)) m)
  where
    arrange : (x y z c : ℕ) → x * (y * c * z) ≡ x * y * (z * c)
    arrange x y z c = simp (mul_assoc, mul_comm)

-- for a p below 2 ^ 24 its whole part is that of p / r
exact_quotient : (p r : ℕ) → 0 < p → p < 16777216 → 0 < r → r < 2 ^ 32 → whole (divided (single p 1) (single r 1)) ≡ p / r
exact_quotient p r P small R r-lt = go (below_or_not r 16777216)
  where
    a : Single
    a = single p 1

    b : Single
    b = single r 1

    k : Shape r 1 b
    k = shape_whole r R r-lt

    A : ℕ
    A = top a * bottom b

    B : ℕ
    B = top b * bottom a

    B_pos : 0 < B
    B_pos = mul-pos (top_pos r b R r-lt k) (pow_pos a.over)

    h : Shape A B (divided a b)
    h = shape_divided p r P (omega arith) R r-lt

    p_is : top a ≡ p * bottom a
    p_is = exact p a (shape_whole p P (omega arith)) small

    regroup : (x y z c : ℕ) → x * y * z * c ≡ x * y * (c * z)
    regroup x y z c = mul_assoc (x * y) z c ∙ ap (λ w. x * y * w) (mul_comm z c)

    crossed : 16777216 ≤ r → A * 16777216 ≤ p * B
    crossed l =
        rw (p_is, regroup p (bottom a) (bottom b) 16777216, mul_comm (top b) (bottom a), ← mul_assoc p (bottom a) (top b))
        (mul-le-mul_left (p * bottom a) (large r b k l))

    go : (r < 16777216) ⊎ (16777216 ≤ r) → whole (divided a b) ≡ p / r
    go (inl l) =
        let r_is : top b ≡ r * bottom b = exact r b k l in
        let c : A * r ≡ p * B = rw (p_is, r_is) (simp (mul_assoc, mul_comm, mul_left_comm)) in
        le_antisymm (whole_le A B p r B_pos R small (le_of_eq c) (divided a b) h)
        (whole_ge A B p r B_pos R small (le_of_eq c) (divided a b) h (p / r) (no_less p r a b p_is r_is))
    go (inr l) =
        let z : whole (divided a b) ≤ p / 16777216 = whole_le A B p 16777216 B_pos (lit< tt) small (crossed l) (divided a b) h in
        omega (arith, div-eq_of_lt small, div-eq_of_lt (lt_of_lt_of_le small l))

-- ---- the two paths

-- they give one whole part where the quotient's is that of 100 * q / q3; for a q of 0 it is 0
pub paths_by : (q q3 : ℕ) → 0 < q3 → 100 * q < 2 ^ 32
    → (0 < q → whole (divided (single (100 * q) 1) (single q3 1)) ≡ 100 * q / q3) → floating_whole q q3 ≡ integer_whole q q3
paths_by q q3 R small same =
    elim (eq-zero-or-pos q) [
      | inl z ↦ rw z (ap whole (quotient_zero q3) ∙ sym (div-eq_of_lt R))
      | inr Q ↦ ap whole (quotient_is q q3 (100 * q) (mod-eq_of_lt small)) ∙ same Q
    ]

-- so they do where 100 * q is below 2 ^ 24
pub exact_paths : (q q3 : ℕ) → 0 < q3 → q3 < 2 ^ 32 → 100 * q < 16777216 → floating_whole q q3 ≡ integer_whole q q3
exact_paths q q3 R r-lt small = paths_by q q3 R (omega arith) (λ Q. exact_quotient (100 * q) q3 (omega arith) small R r-lt)
