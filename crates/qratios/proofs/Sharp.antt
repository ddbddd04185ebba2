-- Both paths give one whole part for every q up to a q3 of at most 262,146. There 100 * q is a multiple of 4 below 2 ^ 26, so it and q3 are
-- exact. The one rounding left, of a quotient of at most 100, moves it by at most 1 / 2 ^ 18, and the next whole number is farther.
-- Assumes nothing.
use Rattle.std.proofs.Common.{◌≡◌, ℕ, zero, suc, ◌+◌, ◌-◌, ◌*◌, ◌/◌, ◌^◌, ◌<◌, ◌≤◌, ◌⊎◌, sym, ap, ◌∙◌, inl, inr, le_of_suc-le-suc, mul-le-mul_right, mul_assoc, mul_comm, div-lt_iff_lt-mul, add-mul, le_antisymm, lt_of_mul-lt-mul_right, mul-le-mul_left, mul-lt-mul_of_pos_right, mul-pos, one-mul, mul-one, mul_right_comm, arith, lit<, pow_pos, pow_mono}
use native.Mathlib.Nat.{eq_of_mul-eq-mul_right}
use Rattle.qratios.specs.Single.{Single, top, bottom, whole, single, divided}
use Rattle.qratios.specs.Ratios.{integer_whole, floating_whole}
use Rattle.qratios.proofs.Rounding.{Half, below_or_not}
use Rattle.qratios.proofs.Shape.{Shape, near}
use Rattle.qratios.proofs.Carry.{carries}
use Rattle.qratios.proofs.Divide.{shape_whole, shape_divided}
use Rattle.qratios.proofs.Exact.{below_next, whole_is, no_halving, whole_ge, exact, no_less, paths_by}

-- ---- a multiple of 4 below 2 ^ 26 is a single-precision number

-- halved at most twice it stays whole, so that rounding leaves it
halved_exact : (m u s : ℕ) → m < 16777216 → 8388608 * 2 ^ u ≤ m * 4 → Half (m * 4) (2 ^ u) s → s * 2 ^ u ≡ m * 4
halved_exact m zero s small lo h = omega (arith, h.0, h.1)
halved_exact m (suc zero) s small lo h = omega (arith, h.0, h.1)
halved_exact m (suc (suc zero)) s small lo h = omega (arith, h.0, h.1)
halved_exact m (suc (suc (suc w))) s small lo h =
    let l : 3 ≤ suc (suc (suc w)) = omega arith in
    let k : 2 ^ 3 ≤ 2 ^ suc (suc (suc w)) = pow_mono l in
    absurd (omega arith)

-- so its number is it
exact_fours : (m n : ℕ) (x : Single) → Shape n 1 x → n ≡ m * 4 → m < 16777216 → top x ≡ n * bottom x
exact_fours m n x h four small =
    eq_of_mul-eq-mul_right (2 ^ h.v) (pow_pos h.v) (top x) (n * bottom x)
    ((carries n 1 x h).value ∙ rw scaled (mul_right_comm n (2 ^ h.v) (bottom x)))
  where
    scaled : h.s * 2 ^ h.u ≡ n * 2 ^ h.v
    scaled = elim h.one_side [
      | inl z ↦
          let w : Half (n * 2 ^ h.v) (1 * 1) h.s = rw z at (near n 1 x h (lit< tt)) in
          rw z (omega (arith, w.0, w.1))
      | inr z ↦
          let l : 8388608 * 2 ^ h.u ≤ m * 4 = rw (z, four, one-mul (2 ^ h.u), mul-one (m * 4)) at h.lo in
          let w : Half (m * 4) (2 ^ h.u) h.s = rw (z, four, one-mul (2 ^ h.u), mul-one (m * 4)) at (near n 1 x h (lit< tt)) in
          rw (z, four, mul-one (m * 4)) (halved_exact m h.u h.s small l w)
    ]

-- ---- the rounding of a / b, which is at most 100
module _ (a b : ℕ) (B : 0 < b) (most : a * 1 ≤ 100 * b) (x : Single) (h : Shape a b x) where
  -- it is not halved
  one : 2 ^ h.u ≡ 1
  one = no_halving a b 100 1 B (lit< tt) (lit< tt) most x h

  -- it is doubled at least 17 times
  doubled : 131072 ≤ 2 ^ h.v
  doubled = go (below_or_not h.v 17)
    where
      l : 8388608 * (b * 1) ≤ a * 2 ^ h.v
      l = rw one at h.lo

      go : (h.v < 17) ⊎ (17 ≤ h.v) → 131072 ≤ 2 ^ h.v
      go (inl g) =
          let k : 2 ^ h.v ≤ 2 ^ 16 = pow_mono (le_of_suc-le-suc g) in
          let i : a * 2 ^ h.v ≤ a * 65536 = mul-le-mul_left a k in
          absurd (omega (arith, l, most))
      go (inr g) = pow_mono g

  -- so it does not reach a next whole number that is more than 1 / 2 ^ 18 above
  not_reached : (k j : ℕ) → j + a ≡ suc k * b → b < 262144 * j → whole x ≤ k
  not_reached k j e g =
      let p = 2 ^ h.v in
      let w : 2 * (h.s * (b * 1)) ≤ 2 * (a * p) + b * 1 = rw one at (near a b x h B).0 in
      let i : j * 131072 ≤ j * p = mul-le-mul_left j doubled in
      let f : j * p + a * p ≡ suc k * b * p = sym (add-mul j a p) ∙ ap (λ z. z * p) e in
      let l : h.s * b < suc k * p * b = omega (arith, mul-one b, mul_right_comm (suc k) p b) in
      rw (whole_is a b 100 1 B (lit< tt) (lit< tt) most x h, one, mul-one h.s)
      (le_of_suc-le-suc ((div-lt_iff_lt-mul (pow_pos h.v)).1 (lt_of_mul-lt-mul_right b l)))

-- ---- by how much 100 * q / r misses the next whole number

-- by j / r, which is more than 1 / 2 ^ 18: for an r below 2 ^ 18 any j will do; at 2 ^ 18 j is a multiple of 4, at the next r of 5, and at
-- the one after of 2
misses : (q r k j : ℕ) → 0 < j → r ≤ 262146 → j + 100 * q ≡ suc k * r → r < 262144 * j
misses q r k j J small e = go (below_or_not r 262144)
  where
    next_is : (d : ℕ) → r ≡ d + 262144 → j + 100 * q ≡ suc k * (d + 262144)
    next_is d z = e ∙ ap (λ y. suc k * y) z

    beyond : (d : ℕ) → r ≡ d + 262144 → r < 262144 * j
    beyond zero z = omega (arith, next_is 0 z)
    beyond (suc zero) z = omega (arith, next_is 1 z)
    beyond (suc (suc zero)) z = omega (arith, next_is 2 z)
    beyond (suc (suc (suc d))) z = absurd (omega arith)

    go : (r < 262144) ⊎ (262144 ≤ r) → r < 262144 * j
    go (inl l) = omega arith
    go (inr l) = beyond (r - 262144) (omega arith)

-- ---- the quotient of 100 * q and r
sharp_quotient : (q r : ℕ) → 0 < q → 0 < r → q ≤ r → r ≤ 262146 → whole (divided (single (100 * q) 1) (single r 1)) ≡ 100 * q / r
sharp_quotient q r Q R most small =
    le_antisymm (not_reached A B B_pos at_most x h (p / r) (j * c) sum gap)
    (whole_ge A B 100 1 B_pos (lit< tt) (lit< tt) at_most x h (p / r) (no_less p r a b p_is r_is))
  where
    p : ℕ
    p = 100 * q

    a : Single
    a = single p 1

    b : Single
    b = single r 1

    x : Single
    x = divided a b

    -- the terms of the quotient are p and r times c
    A : ℕ
    A = top a * bottom b

    B : ℕ
    B = top b * bottom a

    c : ℕ
    c = bottom a * bottom b

    c_pos : 0 < c
    c_pos = mul-pos (pow_pos a.over) (pow_pos b.over)

    p_is : top a ≡ p * bottom a
    p_is = exact_fours (25 * q) p a (shape_whole p (omega arith) (omega arith)) (omega arith) (omega arith)

    r_is : top b ≡ r * bottom b
    r_is = exact r b (shape_whole r R (omega arith)) (omega arith)

    A_is : A ≡ p * c
    A_is = ap (λ z. z * bottom b) p_is ∙ mul_assoc p (bottom a) (bottom b)

    B_is : B ≡ r * c
    B_is = ap (λ z. z * bottom a) r_is ∙ mul_assoc r (bottom b) (bottom a) ∙ ap (λ z. r * z) (mul_comm (bottom b) (bottom a))

    B_pos : 0 < B
    B_pos = rw B_is (mul-pos R c_pos)

    h : Shape A B x
    h = shape_divided p r (omega arith) (omega arith) R (omega arith)

    at_most : A * 1 ≤ 100 * B
    at_most =
        let m : p * c ≤ 100 * r * c = mul-le-mul_right c (mul-le-mul_left 100 most) in
        rw (mul-one A, A_is, B_is, ← mul_assoc 100 r c) m

    -- p / r misses the next whole number by j / r
    j : ℕ
    j = suc (p / r) * r - p

    j_is : j + p ≡ suc (p / r) * r
    j_is = omega (arith, below_next p r R)

    sum : j * c + A ≡ suc (p / r) * B
    sum = rw (A_is, B_is) (sym (add-mul j p c) ∙ ap (λ z. z * c) j_is ∙ mul_assoc (suc (p / r)) r c)

    gap : B < 262144 * (j * c)
    gap =
        let f : r < 262144 * j = misses q r (p / r) j (omega (arith, below_next p r R)) small j_is in
        let m : r * c < 262144 * j * c = mul-lt-mul_of_pos_right f c_pos in
        rw (B_is, ← mul_assoc 262144 j c) m

-- ---- the two paths give one whole part for every q up to a q3 of at most 262,146
pub sharp_paths : (q q3 : ℕ) → 0 < q3 → q ≤ q3 → q3 ≤ 262146 → floating_whole q q3 ≡ integer_whole q q3
sharp_paths q q3 R most small = paths_by q q3 R (omega arith) (λ Q. sharp_quotient q q3 Q R most small)
