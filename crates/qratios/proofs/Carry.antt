-- The carry of a significand that rounds up to 2 ^ 24: it keeps the number, and the number's 32 bits give it back.
-- Assumes nothing.
use Rattle.std.proofs.Common.{◌≡◌, ℕ, zero, suc, ◌+◌, ◌-◌, ◌*◌, ◌/◌, ◌%◌, ◌^◌, ◌<◌, ◌≤◌, Bool, true, false, cond, not, T, ltb, ◌⊎◌, sym, refl, ap, ◌∙◌, inl, inr, le_refl, mul_assoc, mul_comm, eq-zero-or-pos, le_antisymm, mul_right_comm, arith, lit<, ltb→lt, nltb→le, le-ltb, ne_eqb}
use native.Mathlib.Nat.{pow-succ'}
use Rattle.qratios.specs.Single.{Single, top, bottom, bits, single_from_bits, twice, carried, single}
use Rattle.qratios.specs.Demands.{BitsGiveBack}
use Rattle.qratios.proofs.Shape.{Shape, shape, single_zero}

-- ---- the bits of a number that is not 0

-- a significand from 2 ^ 23 to 2 ^ 24 - 1 times or over a power of two, in reach of the eight bits
pub record Normal (x : Single) : Type 0 where
  pub sig_ge : 8388608 ≤ x.sig
  pub sig_lt : x.sig < 16777216
  pub times_le : x.times ≤ 101
  pub over_le : x.over ≤ 100
  pub one_side : (x.times ≡ 0) ⊎ (x.over ≡ 0)

-- its bits, from the three parts
pub normal_bits : (x : Single) → 8388608 ≤ x.sig → bits x ≡ (150 + x.times - x.over) * 8388608 + (x.sig - 8388608)
normal_bits x h = rw (ne_eqb x.sig 0 (λ e. omega arith))

-- the three parts, from the bits
from_fields : (b s t o : ℕ) → b ≡ (150 + t - o) * 8388608 + (s - 8388608) → 8388608 ≤ s → s < 16777216 → o ≤ 100 → (t ≡ 0) ⊎ (o ≡ 0)
    → single_from_bits b ≡ record { sig = s; times = t; over = o }
from_fields b s t o e lo hi k side =
    rw (le-ltb b 8388608 (omega arith), f, g, a, p, q)
  where
    f : b / 8388608 ≡ 150 + t - o
    f = omega arith

    g : b % 8388608 ≡ s - 8388608
    g = omega arith

    a : 8388608 + (s - 8388608) ≡ s
    a = omega arith

    p : 150 + t - o - 150 ≡ t
    p = elim side [ inl z ↦ omega arith | inr z ↦ omega arith ]

    q : 150 - (150 + t - o) ≡ o
    q = elim side [ inl z ↦ omega arith | inr z ↦ omega arith ]

-- its bits give it back
pub normal_back : (x : Single) → Normal x → single_from_bits (bits x) ≡ x
normal_back x h =
    from_fields (bits x) x.sig x.times x.over (normal_bits x h.sig_ge) h.sig_ge h.sig_lt h.over_le h.one_side

-- ---- s * 2 ^ u / 2 ^ v after the carry
pub record Carried (s u v : ℕ) (x : Single) : Type 0 where
  pub value : top x * 2 ^ v ≡ s * 2 ^ u * bottom x
  pub sig_ge : 8388608 ≤ x.sig
  pub sig_lt : x.sig < 16777216
  pub times_le : x.times ≤ suc u
  pub over_le : x.over ≤ v
  pub one_side : (u ≡ 0) ⊎ (v ≡ 0) → (x.times ≡ 0) ⊎ (x.over ≡ 0)
  pub even : s % 2 ≡ 0 → x.sig % 2 ≡ 0

-- `carried` does all that
carried_is : (s u v : ℕ) → 8388608 ≤ s → s ≤ 16777216 → Carried s u v (carried s u v)
carried_is s u v S L = go (ltb s 16777216) (ltb→lt s 16777216) (nltb→le s 16777216)
  where
    plain : s < 16777216 → Carried s u v (record { sig = s; times = u; over = v })
    plain l = record {
      value = refl;
      sig_ge = S;
      sig_lt = l;
      times_le = omega arith;
      over_le = le_refl v;
      one_side = λ z. z;
      even = λ e. e;
    }

    up : (w : ℕ) → s ≡ 8388608 * 2 → Carried s u w (twice u w)
    up zero e = record {
      value = rw (e, pow-succ' 2 u, mul_assoc 8388608 2 (2 ^ u));
      sig_ge = le_refl 8388608;
      sig_lt = lit< tt;
      times_le = le_refl (suc u);
      over_le = le_refl 0;
      one_side = λ z. inr refl;
      even = λ z. refl;
    }
    up (suc w) e = record {
      value = rw (e, pow-succ' 2 w, mul_right_comm 8388608 2 (2 ^ u)) (sym (mul_assoc (8388608 * 2 ^ u) 2 (2 ^ w)));
      sig_ge = le_refl 8388608;
      sig_lt = lit< tt;
      times_le = omega arith;
      over_le = omega arith;
      one_side = λ z. inl (elim z [ inl y ↦ y | inr y ↦ absurd (omega arith) ]);
      even = λ z. refl;
    }

    go : (b : Bool) → (T b → s < 16777216) → (T (not b) → 16777216 ≤ s)
        → Carried s u v (cond b (record { sig = s; times = u; over = v }) (twice u v))
    go true l g = plain (l tt)
    go false l g = up v (le_antisymm L (g tt))

-- a shape's number is its significand, carried
pub carries : (n d : ℕ) (x : Single) (h : Shape n d x) → Carried h.s h.u h.v x
carries n d x h = rw h.is (carried_is h.s h.u h.v h.s_ge h.s_le)

-- a shape's number is normal
pub normal : (n d : ℕ) (x : Single) → Shape n d x → Normal x
normal n d x h =
    let c = carries n d x h in
    record {
      sig_ge = c.sig_ge;
      sig_lt = c.sig_lt;
      times_le = omega (arith, c.times_le, h.u_le);
      over_le = omega (arith, c.over_le, h.v_le);
      one_side = c.one_side h.one_side;
    }

-- top and bottom, against the scaled n / d
pub scaled_value : (n d : ℕ) (x : Single) (h : Shape n d x) → top x * d * 2 ^ h.v ≡ h.s * (d * 2 ^ h.u) * bottom x
scaled_value n d x h =
    mul_right_comm (top x) d (2 ^ h.v) ∙ ap (λ z. z * d) (carries n d x h).value ∙ arrange h.s (2 ^ h.u) (bottom x) d
  where
    arrange : (s q c d : ℕ) → s * q * c * d ≡ s * (d * q) * c
    arrange s q c d = simp (mul_assoc, mul_comm)

-- the bits of `single n d` give it back
pub bits_give_back : BitsGiveBack
bits_give_back n d D a b =
    elim (eq-zero-or-pos n) [
      | inl z ↦ rw (z, single_zero d)
      | inr N ↦ normal_back (single n d) (normal n d (single n d) (shape n d N D a b))
    ]
