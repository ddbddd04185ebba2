-- The errors of the three roundings: each is at most one part in 2 ^ 24, and together they move the whole part of a quotient up to 100 by
-- at most one.
-- Assumes nothing.
use Rattle.std.proofs.Common.{◌≡◌, ℕ, suc, ◌+◌, ◌*◌, ◌/◌, ◌^◌, ◌<◌, ◌≤◌, sym, ap, ◌∙◌, inl, inr, mul-le-mul_right, mod-eq_of_lt, mul_assoc, suc-mul, mul_comm, div-lt_iff_lt-mul, eq-zero-or-pos, lt_of_mul-lt-mul_right, mul-le-mul_left, mul-lt-mul_of_pos_right, mul-pos, mul-one, mul_right_comm, le_of_mul-le-mul_right, mul_left_comm, arith, lit<, pow_pos}
use native.Mathlib.Nat.{div-eq_of_lt}
use Rattle.qratios.specs.Single.{Single, top, bottom, whole, single, divided}
use Rattle.qratios.specs.Ratios.{integer_whole, floating_whole}
use Rattle.qratios.specs.Demands.{WithinOne}
use Rattle.qratios.proofs.Shape.{Shape, near}
use Rattle.qratios.proofs.Carry.{scaled_value}
use Rattle.qratios.proofs.Divide.{top_pos, shape_whole, shape_divided, quotient_is, quotient_zero}
use Rattle.qratios.proofs.Exact.{below_next}

-- ---- one rounding

-- x lies within one part in 2 ^ 24 of n / d
record Close (n d : ℕ) (x : Single) : Type 0 where
  most : 16777216 * (top x * d) ≤ 16777217 * (n * bottom x)
  least : 16777215 * (n * bottom x) ≤ 16777216 * (top x * d)

-- a shape's number does
close : (n d : ℕ) (x : Single) → 0 < d → Shape n d x → Close n d x
close n d x D h =
    let w = near n d x h D in
    let i : 16777216 * Y ≤ 16777217 * N = omega (arith, h.lo, w.0) in
    let j : 16777215 * N ≤ 16777216 * Y = omega (arith, h.lo, w.1) in
    record {
      most = le_of_mul-le-mul_right (rw (left 16777216, right 16777217) (mul-le-mul_right (bottom x) i)) (pow_pos h.v);
      least = le_of_mul-le-mul_right (rw (left 16777216, right 16777215) (mul-le-mul_right (bottom x) j)) (pow_pos h.v);
    }
  where
    Y : ℕ
    Y = h.s * (d * 2 ^ h.u)

    N : ℕ
    N = n * 2 ^ h.v

    left : (c : ℕ) → c * (top x * d) * 2 ^ h.v ≡ c * Y * bottom x
    left c = mul_assoc c (top x * d) (2 ^ h.v) ∙ ap (λ z. c * z) (scaled_value n d x h) ∙ sym (mul_assoc c Y (bottom x))

    right : (c : ℕ) → c * (n * bottom x) * 2 ^ h.v ≡ c * N * bottom x
    right c =
        mul_assoc c (n * bottom x) (2 ^ h.v) ∙ ap (λ z. c * z) (mul_right_comm n (bottom x) (2 ^ h.v)) ∙ sym (mul_assoc c N (bottom x))

-- ---- the three together: A / α is close to p, B / β to r, and X / ξ to their quotient
module _ (p r A α B β X ξ : ℕ) (α-pos : 0 < α) (β-pos : 0 < β) where
  -- all four products over one denominator
  abbrev R : ℕ
  R = r * X * (α * β)

  abbrev P : ℕ
  P = p * ξ * (α * β)

  -- r's product
  of_r : (c : ℕ) → c * (r * β) * (X * α) ≡ c * R
  of_r c = simp (mul_assoc, mul_comm, mul_left_comm)

  -- p's product
  of_p : (c : ℕ) → c * (p * α) * (β * ξ) ≡ c * P
  of_p c = simp (mul_assoc, mul_comm, mul_left_comm)

  -- B's product
  of_B : (c : ℕ) → c * (B * 1) * (X * α) ≡ c * (X * (B * α))
  of_B c = simp (mul-one, mul_assoc, mul_comm, mul_left_comm)

  -- A's product
  of_A : (c : ℕ) → c * (A * 1) * (β * ξ) ≡ c * (A * β * ξ)
  of_A c = simp (mul-one, mul_assoc, mul_comm, mul_left_comm)

  -- upwards: the numbers are (2 ^ 24 - 1) * 2 ^ 24 and (2 ^ 24 + 1) ^ 2
  chain_up : 16777216 * (A * 1) ≤ 16777217 * (p * α) → 16777215 * (r * β) ≤ 16777216 * (B * 1)
      → 16777216 * (X * (B * α)) ≤ 16777217 * (A * β * ξ) → 281474959933440 * (r * X) ≤ 281475010265089 * (p * ξ)
  chain_up a b x =
      let i : 16777215 * (r * β) * (X * α) ≤ 16777216 * (B * 1) * (X * α) = mul-le-mul_right (X * α) b in
      let j : 16777216 * (A * 1) * (β * ξ) ≤ 16777217 * (p * α) * (β * ξ) = mul-le-mul_right (β * ξ) a in
      let k : 281474959933440 * R ≤ 281475010265089 * P = omega (arith, of_r 16777215, of_B 16777216, of_A 16777216, of_p 16777217) in
      le_of_mul-le-mul_right (rw (mul_assoc 281474959933440 (r * X) (α * β), mul_assoc 281475010265089 (p * ξ) (α * β)) k)
      (mul-pos α-pos β-pos)

  -- downwards: the numbers are (2 ^ 24 - 1) ^ 2 and (2 ^ 24 + 1) * 2 ^ 24
  chain_down : 16777215 * (p * α) ≤ 16777216 * (A * 1) → 16777216 * (B * 1) ≤ 16777217 * (r * β)
      → 16777215 * (A * β * ξ) ≤ 16777216 * (X * (B * α)) → 281474943156225 * (p * ξ) ≤ 281474993487872 * (r * X)
  chain_down a b x =
      let i : 16777216 * (B * 1) * (X * α) ≤ 16777217 * (r * β) * (X * α) = mul-le-mul_right (X * α) b in
      let j : 16777215 * (p * α) * (β * ξ) ≤ 16777216 * (A * 1) * (β * ξ) = mul-le-mul_right (β * ξ) a in
      let k : 281474943156225 * P ≤ 281474993487872 * R = omega (arith, of_r 16777217, of_B 16777216, of_A 16777216, of_p 16777215) in
      le_of_mul-le-mul_right (rw (mul_assoc 281474943156225 (p * ξ) (α * β), mul_assoc 281474993487872 (r * X) (α * β)) k)
      (mul-pos α-pos β-pos)

-- ---- the whole parts of p / r, which is at most 100, and of X / ξ
module _ (p r X ξ : ℕ) (R : 0 < r) (Ξ : 0 < ξ) (h : p ≤ 100 * r) where
  -- p / r is at most 100
  most : p * ξ ≤ 100 * (r * ξ)
  most = rw (mul_assoc 100 r ξ) at (mul-le-mul_right ξ h)

  -- X / ξ is less than one above p / r
  upward : 281474959933440 * (r * X) ≤ 281475010265089 * (p * ξ) → X / ξ ≤ p / r + 1
  upward c =
      let k = p / r in
      let b : p * ξ < suc k * (r * ξ) = rw (mul_assoc (suc k) r ξ) at (mul-lt-mul_of_pos_right (below_next p r R) Ξ) in
      let z : 0 < r * ξ = mul-pos R Ξ in
      let g : r * X < suc (suc k) * (r * ξ) = omega (arith, suc-mul (suc k) (r * ξ), most) in
      let l : X * r < suc (suc k) * ξ * r = rw (mul_comm X r, mul_assoc (suc (suc k)) ξ r, mul_comm ξ r) g in
      let w : X / ξ < suc (suc k) = (div-lt_iff_lt-mul Ξ).1 (lt_of_mul-lt-mul_right r l) in
      omega arith

  -- X / ξ is less than one below p / r
  downward : 281474943156225 * (p * ξ) ≤ 281474993487872 * (r * X) → p / r ≤ X / ξ + 1
  downward c =
      let k = X / ξ in
      let a : X * r < suc k * ξ * r = mul-lt-mul_of_pos_right (below_next X ξ Ξ) R in
      let b : r * X < suc k * (r * ξ) = rw (mul_comm r X, mul_comm r ξ, ← mul_assoc (suc k) ξ r) a in
      let z : 0 < r * ξ = mul-pos R Ξ in
      let g : p * ξ < suc (suc k) * (r * ξ) = omega (arith, suc-mul (suc k) (r * ξ), most) in
      let l : p * ξ < suc (suc k) * r * ξ = rw (mul_assoc (suc (suc k)) r ξ) g in
      let w : p / r < suc (suc k) = (div-lt_iff_lt-mul R).1 (lt_of_mul-lt-mul_right ξ l) in
      omega arith

-- the quotient of two whole numbers, which is at most 100
pub close_quotient : (p r : ℕ) → 0 < p → p < 2 ^ 32 → 0 < r → r < 2 ^ 32 → p ≤ 100 * r
    → WithinOne (whole (divided (single p 1) (single r 1))) (p / r)
close_quotient p r P p-lt R r-lt h =
    let up = chain_up p r (top a) (bottom a) (top b) (bottom b) (top x) (bottom x) α β A.most B.least X.most in
    let down = chain_down p r (top a) (bottom a) (top b) (bottom b) (top x) (bottom x) α β A.least B.most X.least in
    (upward p r (top x) (bottom x) R ξ h up, downward p r (top x) (bottom x) R ξ h down)
  where
    a : Single
    a = single p 1

    b : Single
    b = single r 1

    x : Single
    x = divided a b

    α : 0 < bottom a
    α = pow_pos a.over

    β : 0 < bottom b
    β = pow_pos b.over

    ξ : 0 < bottom x
    ξ = pow_pos x.over

    A : Close p 1 a
    A = close p 1 a (lit< tt) (shape_whole p P p-lt)

    B : Close r 1 b
    B = close r 1 b (lit< tt) (shape_whole r R r-lt)

    X : Close (top a * bottom b) (top b * bottom a) x
    X =
        close (top a * bottom b) (top b * bottom a) x (mul-pos (top_pos r b R r-lt (shape_whole r R r-lt)) α)
        (shape_divided p r P p-lt R r-lt)

-- ---- the two paths' whole parts are within one where 100 * q does not roll over
pub close_paths : (q q3 : ℕ) → 0 < q3 → q3 < 2 ^ 32 → q ≤ q3 → 100 * q < 2 ^ 32 → WithinOne (floating_whole q q3) (integer_whole q q3)
close_paths q q3 R r-lt h small =
    elim (eq-zero-or-pos q) [
      | inl z ↦ rw (z, quotient_zero q3) (rw (div-eq_of_lt R) (omega arith, omega arith))
      | inr Q ↦
          rw (quotient_is q q3 (100 * q) (mod-eq_of_lt small))
          (close_quotient (100 * q) q3 (omega arith) small R r-lt (mul-le-mul_left 100 h))
    ]
