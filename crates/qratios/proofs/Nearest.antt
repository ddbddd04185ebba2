-- `single n d` is the number nearest to n / d, and at a tie its significand is even.
-- Assumes nothing.
use Rattle.std.proofs.Common.{◌≡◌, ℕ, suc, ◌+◌, ◌-◌, ◌*◌, ◌%◌, ◌^◌, ◌<◌, ◌≤◌, ◌⊎◌, sym, refl, ap, ◌∙◌, ap₂, inl, inr, zero-le, le_of_lt, lt_irrefl, mul-le-mul_right, mul_assoc, mul_comm, eq-zero-or-pos, mul-lt-mul_of_pos_right, mul-pos, zero-mul, mul_right_comm, le_of_mul-le-mul_right, mul_left_comm, arith, pow_pos, pow_mono, pow-add}
use native.Mathlib.Nat.{eq_of_mul-eq-mul_right, pow-succ'}
use Rattle.qratios.specs.Single.{Single, top, bottom, single}
use Rattle.params.specs.Words.{apart}
use Rattle.qratios.specs.Demands.{away, Same, NoNearer, TiesToEven}
use Rattle.qratios.proofs.Rounding.{below_or_not, apart_mul, half_nearest, rounded_even}
use Rattle.qratios.proofs.Shape.{Shape, shape, single_zero, near}
use Rattle.qratios.proofs.Carry.{carries, scaled_value}

-- ---- where another number stands on the grid of 2 ^ u / 2 ^ v

-- t / b is a multiple m of q / p, or it lies below 2 ^ 23 of them
abbrev OnGrid : ℕ → ℕ → ℕ → ℕ → Type 0
OnGrid t b q p = ((m : ℕ) × (t * p ≡ m * (b * q))) ⊎ (t * p < 8388608 * (b * q))

-- each number with a significand below 2 ^ 24 stands so
on_grid : (y : Single) (u v : ℕ) → y.sig < 16777216 → OnGrid (top y) (bottom y) (2 ^ u) (2 ^ v)
on_grid y u v h =
    rw (mul_assoc y.sig (2 ^ y.times) (2 ^ v), ← pow-add 2 y.times v, ← pow-add 2 y.over u)
    (go y.sig (y.times + v) (y.over + u) h (below_or_not (y.times + v) (y.over + u)))
  where
    go : (σ i j : ℕ) → σ < 16777216 → (i < j) ⊎ (j ≤ i) → ((m : ℕ) × (σ * 2 ^ i ≡ m * 2 ^ j)) ⊎ (σ * 2 ^ i < 8388608 * 2 ^ j)
    go σ i j h (inl l) =
        let a : σ * 2 ^ i < 16777216 * 2 ^ i = mul-lt-mul_of_pos_right h (pow_pos i) in
        let b : 2 ^ suc i ≤ 2 ^ j = pow_mono l in
        inr (omega (arith, pow-succ' 2 i))
    go σ i j h (inr g) =
        let e : i ≡ i - j + j = omega arith in
        inl (σ * 2 ^ (i - j), ap (λ z. σ * 2 ^ z) e ∙ ap (λ z. σ * z) (pow-add 2 (i - j) j) ∙ sym (mul_assoc σ (2 ^ (i - j)) (2 ^ j)))

-- ---- x has the shape of n / d, and y is another number

module _ (n d : ℕ) (x y : Single) (D : 0 < d) (h : Shape n d x) where
  -- the powers of two: one step of x's significand is q / p
  abbrev q : ℕ
  q = 2 ^ h.u

  abbrev p : ℕ
  p = 2 ^ h.v

  -- n / d in such steps is N / E
  abbrev N : ℕ
  N = n * p

  abbrev E : ℕ
  E = d * q

  -- how far x's significand lies from that, times E
  abbrev far : ℕ
  far = apart (h.s * E) N

  -- the distance of x
  away_x : away n d x * p ≡ far * bottom x
  away_x =
      apart_mul (top x * d) (n * bottom x) p ∙ ap₂ apart (scaled_value n d x h) (mul_right_comm n (bottom x) p)
      ∙ sym (apart_mul (h.s * E) N (bottom x))

  -- the distance of y
  away_y : away n d y * p ≡ apart (top y * p * d) (N * bottom y)
  away_y = apart_mul (top y * d) (n * bottom y) p ∙ ap₂ apart (mul_right_comm (top y) d p) (mul_right_comm n (bottom y) p)

  -- one step of y, in steps of x
  arrange : (m b q d : ℕ) → m * (b * q) * d ≡ m * (d * q) * b
  arrange m b q d = simp (mul_assoc, mul_comm, mul_left_comm)

  -- where y is the multiple m
  away_m : (m : ℕ) → top y * p ≡ m * (bottom y * q) → away n d y * p ≡ apart (m * E) N * bottom y
  away_m m e =
      away_y ∙ ap (λ z. apart z (N * bottom y)) (ap (λ z. z * d) e ∙ arrange m (bottom y) q d) ∙ sym (apart_mul (m * E) N (bottom y))

  -- where y lies below 2 ^ 23 multiples it is farther than x
  away_low : top y * p < 8388608 * (bottom y * q) → far * bottom y < away n d y * p
  away_low l = rw away_y (farther (8388608 * E * bottom y) (N * bottom y) (top y * p * d) (far * bottom y) less lower nearer)
    where
      less : top y * p * d < 8388608 * E * bottom y
      less = rw (arrange 8388608 (bottom y) q d) at (mul-lt-mul_of_pos_right l D)

      lower : 8388608 * E * bottom y ≤ N * bottom y
      lower = mul-le-mul_right (bottom y) h.lo

      nearer : far * bottom y ≤ apart (8388608 * E * bottom y) (N * bottom y)
      nearer = rw (apart_mul (8388608 * E) N (bottom y)) at (mul-le-mul_right (bottom y) (half_nearest N E h.s 8388608 (near n d x h D)))

      farther : (g k t z : ℕ) → t < g → g ≤ k → z ≤ apart g k → z < apart t k
      farther g k t z a b c = omega arith

  -- so y is no nearer
  nearest : OnGrid (top y) (bottom y) q p → away n d x * bottom y ≤ away n d y * bottom x
  nearest g =
      le_of_mul-le-mul_right (rw (left, mul_right_comm (away n d y) (bottom x) p) (mul-le-mul_right (bottom x) (go g))) (pow_pos h.v)
    where
      left : away n d x * bottom y * p ≡ far * bottom y * bottom x
      left = mul_right_comm (away n d x) (bottom y) p ∙ ap (λ z. z * bottom y) away_x ∙ mul_right_comm far (bottom x) (bottom y)

      go : OnGrid (top y) (bottom y) q p → far * bottom y ≤ away n d y * p
      go (inl (m, e)) = rw (away_m m e) (mul-le-mul_right (bottom y) (half_nearest N E h.s m (near n d x h D)))
      go (inr l) = le_of_lt (away_low l)

  -- and where it is as near, x's significand is even
  even_at_tie : OnGrid (top y) (bottom y) q p → away n d x * bottom y ≡ away n d y * bottom x → (Same x y → ⊥) → x.sig % 2 ≡ 0
  even_at_tie g t differ = go g
    where
      scaled : far * bottom y * bottom x ≡ away n d y * p * bottom x
      scaled =
          mul_right_comm far (bottom y) (bottom x) ∙ ap (λ z. z * bottom y) (sym away_x) ∙ mul_right_comm (away n d x) p (bottom y)
          ∙ ap (λ z. z * p) t ∙ mul_right_comm (away n d y) (bottom x) p

      equal : far * bottom y ≡ away n d y * p
      equal = eq_of_mul-eq-mul_right (bottom x) (pow_pos x.over) (far * bottom y) (away n d y * p) scaled

      regroup : (m q c b : ℕ) → m * q * c * b ≡ m * (b * q) * c
      regroup m q c b = simp (mul_assoc, mul_comm)

      same : (m : ℕ) → top y * p ≡ m * (bottom y * q) → h.s ≡ m → Same x y
      same m e z =
          eq_of_mul-eq-mul_right p (pow_pos h.v) (top x * bottom y) (top y * bottom x)
          (mul_right_comm (top x) (bottom y) p ∙ ap (λ k. k * bottom y) ((carries n d x h).value ∙ ap (λ k. k * q * bottom x) z)
          ∙ regroup m q (bottom x) (bottom y) ∙ ap (λ k. k * bottom x) (sym e) ∙ mul_right_comm (top y) p (bottom x))

      go : OnGrid (top y) (bottom y) q p → x.sig % 2 ≡ 0
      go (inl (m, e)) =
          let k = eq_of_mul-eq-mul_right (bottom y) (pow_pos y.over) far (apart (m * E) N) (equal ∙ away_m m e) in
          (carries n d x h).even (rw h.s_is
          (rounded_even N E m (mul-pos D (pow_pos h.u)) (rw h.s_is at k) (λ z. differ (same m e (h.s_is ∙ z)))))
      go (inr l) = absurd (lt_irrefl (away n d y * p) (rw equal at (away_low l)))

-- ---- of `single n d`, also where n is 0

-- no number with a significand below 2 ^ 24 lies nearer to n / d
pub no_nearer : NoNearer
no_nearer n d y D a b Y =
    elim (eq-zero-or-pos n) [
      | inl z ↦ rw (z, single_zero d) (rw (zero-mul d, zero-mul (bottom y)) zero-le)
      | inr k ↦ let h = shape n d k D a b in nearest n d (single n d) y D h (on_grid y h.u h.v Y)
    ]

-- where another such number lies as near, the significand chosen is even
pub ties_to_even : TiesToEven
ties_to_even n d y D a b Y =
    elim (eq-zero-or-pos n) [
      | inl z ↦ rw (z, single_zero d) (λ t u. refl)
      | inr k ↦ let h = shape n d k D a b in even_at_tie n d (single n d) y D h (on_grid y h.u h.v Y)
    ]
