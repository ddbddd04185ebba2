-- The shape of `single n d`: the power of two that scales n / d to 24 binary digits, and the significand before the carry.
-- Assumes nothing.
use Rattle.std.proofs.Common.{◌≡◌, ℕ, zero, suc, ◌*◌, ◌^◌, ◌<◌, ◌≤◌, Bool, true, false, cond, not, T, ltb, ◌⊎◌, sym, refl, ap, ◌∙◌, inl, inr, zero-le, le_of_suc-le-suc, lt_irrefl, mul-le-mul_right, mul_assoc, mul-le-mul_left, mul-pos, lt_of_not-le, mul-one, mul_right_comm, arith, ltb→lt, nltb→le, pow_pos}
use native.Mathlib.Nat.{pow-succ'}
use Rattle.qratios.specs.Single.{Single, nought, rounded, halvings, doublings, carried, single}
use Rattle.qratios.proofs.Rounding.{Half, rounded_half}

-- ---- the counts are within their fuel

-- the halvings are
halvings_le : (f n d : ℕ) → halvings f n d ≤ f
unfolding halvings
halvings_le zero n d = zero-le
halvings_le (suc f) n d = go (ltb n (16777216 * d)) (halvings f n (d * 2)) (halvings_le f n (d * 2))
  where
    go : (b : Bool) (k : ℕ) → k ≤ f → cond b 0 (suc k) ≤ suc f
    go true k h = zero-le
    go false k h = omega arith

-- so are the doublings
doublings_le : (f n d : ℕ) → doublings f n d ≤ f
unfolding doublings
doublings_le zero n d = zero-le
doublings_le (suc f) n d = go (ltb n (8388608 * d)) (doublings f (n * 2) d) (doublings_le f (n * 2) d)
  where
    go : (b : Bool) (k : ℕ) → k ≤ f → cond b (suc k) 0 ≤ suc f
    go true k h = omega arith
    go false k h = zero-le

-- a doubling in front is one in the power
again : (d u : ℕ) → d * 2 * 2 ^ u ≡ d * 2 ^ suc u
again d u = mul_assoc d 2 (2 ^ u) ∙ ap (λ x. d * x) (sym (pow-succ' 2 u))

-- ---- after u halvings n / (d * 2 ^ u) is below 2 ^ 24, and where u is not 0 it is no less than 2 ^ 23
abbrev Halved : ℕ → ℕ → ℕ → Type 0
Halved n d u = (n < 16777216 * (d * 2 ^ u)) × ((u ≡ 0) ⊎ (8388608 * (d * 2 ^ u) ≤ n))

-- one halving more
halved_suc : (n d u : ℕ) → 16777216 * d ≤ n → Halved n (d * 2) u → Halved n d (suc u)
halved_suc n d u g (h, k) = (rw (again d u) at h, inr (rw (again d u) at (go u k)))
  where
    go : (w : ℕ) → (w ≡ 0) ⊎ (8388608 * (d * 2 * 2 ^ w) ≤ n) → 8388608 * (d * 2 * 2 ^ w) ≤ n
    go w (inl z) = rw z (rw (mul-one (d * 2)) (omega arith))
    go w (inr l) = l

-- `halvings` counts them
halvings_are : (f n d : ℕ) → n < 16777216 * (d * 2 ^ f) → Halved n d (halvings f n d)
unfolding halvings
halvings_are zero n d h = (h, inl refl)
halvings_are (suc f) n d h =
    go (ltb n (16777216 * d)) (ltb→lt n (16777216 * d)) (nltb→le n (16777216 * d)) (halvings_are f n (d * 2) (rw (again d f) h))
  where
    go : (b : Bool) → (T b → n < 16777216 * d) → (T (not b) → 16777216 * d ≤ n) → Halved n (d * 2) (halvings f n (d * 2))
        → Halved n d (cond b 0 (suc (halvings f n (d * 2))))
    go true l g ih = (rw (mul-one d) (l tt), inl refl)
    go false l g ih = halved_suc n d (halvings f n (d * 2)) (g tt) ih

-- ---- after v doublings n * 2 ^ v / d is no less than 2 ^ 23, and where v is not 0 it is below 2 ^ 24
abbrev Doubled : ℕ → ℕ → ℕ → Type 0
Doubled n d v = (8388608 * d ≤ n * 2 ^ v) × ((v ≡ 0) ⊎ (n * 2 ^ v < 16777216 * d))

-- one doubling more
doubled_suc : (n d v : ℕ) → n < 8388608 * d → Doubled (n * 2) d v → Doubled n d (suc v)
doubled_suc n d v g (h, k) = (rw (again n v) at h, inr (rw (again n v) at (go v k)))
  where
    go : (w : ℕ) → (w ≡ 0) ⊎ (n * 2 * 2 ^ w < 16777216 * d) → n * 2 * 2 ^ w < 16777216 * d
    go w (inl z) = rw z (rw (mul-one (n * 2)) (omega arith))
    go w (inr l) = l

-- `doublings` counts them
doublings_are : (f n d : ℕ) → 8388608 * d ≤ n * 2 ^ f → Doubled n d (doublings f n d)
unfolding doublings
doublings_are zero n d h = (h, inl refl)
doublings_are (suc f) n d h =
    go (ltb n (8388608 * d)) (ltb→lt n (8388608 * d)) (nltb→le n (8388608 * d)) (doublings_are f (n * 2) d (rw (again n f) h))
  where
    go : (b : Bool) → (T b → n < 8388608 * d) → (T (not b) → 8388608 * d ≤ n) → Doubled (n * 2) d (doublings f (n * 2) d)
        → Doubled n d (cond b (suc (doublings f (n * 2) d)) 0)
    go true l g ih = doubled_suc n d (doublings f (n * 2) d) (l tt) ih
    go false l g ih = (rw (mul-one n) (g tt), inl refl)

-- ---- one of the two counts is 0, so both ends hold at once
abbrev Scaled : ℕ → ℕ → ℕ → ℕ → Type 0
Scaled n d u v = ((u ≡ 0) ⊎ (v ≡ 0)) × (8388608 * (d * 2 ^ u) ≤ n * 2 ^ v) × (n * 2 ^ v < 16777216 * (d * 2 ^ u))

-- with both counts worked out, n / d is scaled to 24 binary digits
scaled : (n d u v : ℕ) → 0 < d → Halved n d u → Doubled n d v → Scaled n d u v
scaled n d u v D (a, inl p) (b, inl q) = (inl p, rw p (rw (mul-one d) b), rw q (rw (mul-one n) a))
scaled n d u v D (a, inl p) (b, inr k) = (inl p, rw p (rw (mul-one d) b), rw p (rw (mul-one d) k))
scaled n d u v D (a, inr l) (b, inl q) = (inr q, rw q (rw (mul-one n) l), rw q (rw (mul-one n) a))
scaled n d zero v D (a, inr l) (b, inr k) = (inl refl, rw (mul-one d) b, rw (mul-one d) k)
scaled n d (suc u) zero D (a, inr l) (b, inr k) = (inr refl, rw (mul-one n) l, rw (mul-one n) a)
scaled n d (suc u) (suc v) D (a, inr l) (b, inr k) =
    absurd (clash (d * 2 ^ u) (n * 2 ^ v) (n * 2 ^ suc v) (d * 2 ^ suc u) l k (sym (again n v) ∙ mul_right_comm n 2 (2 ^ v))
    (sym (again d u) ∙ mul_right_comm d 2 (2 ^ u)) (grows n v) (grows d u))
  where
    grows : (x k : ℕ) → x ≤ x * 2 ^ k
    grows x k = rw (mul-one x) at (mul-le-mul_left x (pow_pos k))

    clash : (y z z' y' : ℕ) → 8388608 * y' ≤ n → z' < 16777216 * d → z' ≡ z * 2 → y' ≡ y * 2 → n ≤ z → d ≤ y → ⊥
    clash y z z' y' h k p q i j = omega arith

-- ---- the significand

-- before the carry it lies from 2 ^ 23 to 2 ^ 24
significand_ends : (n d s : ℕ) → 0 < d → 8388608 * d ≤ n → n < 16777216 * d → Half n d s → (8388608 ≤ s) × (s ≤ 16777216)
significand_ends n d s D lo hi h = (
  lt_of_not-le (λ (g : s ≤ 8388607). let p : s * d ≤ 8388607 * d = mul-le-mul_right d g in omega (arith, h.1)),
  le_of_suc-le-suc (lt_of_not-le (λ (g : 16777217 ≤ s). let p : 16777217 * d ≤ s * d = mul-le-mul_right d g in omega (arith, h.0))),
)

-- x is n / d, scaled by 2 ^ v / 2 ^ u to a whole part of 24 binary digits, rounded to s, and carried
pub record Shape (n d : ℕ) (x : Single) : Type 0 where
  pub u : ℕ
  pub v : ℕ
  pub s : ℕ
  pub u_le : u ≤ 100
  pub v_le : v ≤ 100
  pub one_side : (u ≡ 0) ⊎ (v ≡ 0)
  pub lo : 8388608 * (d * 2 ^ u) ≤ n * 2 ^ v
  pub hi : n * 2 ^ v < 16777216 * (d * 2 ^ u)
  pub s_is : s ≡ rounded (n * 2 ^ v) (d * 2 ^ u)
  pub s_ge : 8388608 ≤ s
  pub s_le : s ≤ 16777216
  pub is : x ≡ carried s u v

-- `single n d` has that shape
pub shape : (n d : ℕ) → 0 < n → 0 < d → n < 2 ^ 64 → d < 2 ^ 64 → Shape n d (single n d)
unfolding single
shape zero d N D a b = absurd (lt_irrefl 0 N)
shape (suc m) d N D a b =
    let n = suc m in
    let u = halvings 100 n d in
    let v = doublings 100 n d in
    let w = scaled n d u v D (halvings_are 100 n d (omega arith)) (doublings_are 100 n d (omega arith)) in
    let P : 0 < d * 2 ^ u = mul-pos D (pow_pos u) in
    let s = rounded (n * 2 ^ v) (d * 2 ^ u) in
    let e = significand_ends (n * 2 ^ v) (d * 2 ^ u) s P w.1 w.2 (rounded_half (n * 2 ^ v) (d * 2 ^ u) P) in
    record {
      u = u;
      v = v;
      s = s;
      u_le = halvings_le 100 n d;
      v_le = doublings_le 100 n d;
      one_side = w.0;
      lo = w.1;
      hi = w.2;
      s_is = refl;
      s_ge = e.0;
      s_le = e.1;
      is = refl;
    }

-- 0 is 0
pub single_zero : (d : ℕ) → single 0 d ≡ nought
unfolding single
single_zero d = refl

-- ---- the rounding of a shape

-- the significand lies within a half of the scaled n / d
pub near : (n d : ℕ) (x : Single) (h : Shape n d x) → 0 < d → Half (n * 2 ^ h.v) (d * 2 ^ h.u) h.s
near n d x h D = rw h.s_is (rounded_half (n * 2 ^ h.v) (d * 2 ^ h.u) (mul-pos D (pow_pos h.u)))
