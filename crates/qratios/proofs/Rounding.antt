-- Rounding n / d to the nearest whole number: it lies within a half of n / d, no whole number lies nearer, and it is even where another
-- lies as near.
-- Assumes nothing.
use Rattle.std.proofs.Common.{◌≡◌, ℕ, suc, ◌+◌, ◌-◌, ◌*◌, ◌/◌, ◌%◌, ◌<◌, ◌≤◌, not, T, ◌⊎◌, sym, ◌∙◌, ap₂, inl, inr, mul-le-mul_right, mod-lt, suc-mul, mul_comm, add-mul, div-add-mod', arith, eqb→eq, leb→le}
use Prim.Native.Nat.{compare, Ordering}
use native.Mathlib.Nat.{mul-sub}
use native.Mathlib.Decide.{dec_lt}
use lib.Dec.{is_le, compare_is_eq, nleb→lt, eqb_refl}
use lib.Arith.{lt_of_le-ne}
use Rattle.qratios.specs.Single.{closer, rounded}
use Rattle.params.specs.Words.{apart}

-- one number is below another, or not
pub below_or_not : (n m : ℕ) → (n < m) ⊎ (m ≤ n)
below_or_not n m = go (dec_lt n m)
  where
    go : Dec (n < m) → (n < m) ⊎ (m ≤ n)
    go (yes l) = inl l
    go (no l) = inr (omega arith)

-- ---- what `compare` says

-- what an ordering says of two numbers
abbrev Compared : Ordering → ℕ → ℕ → Type 0
Compared Ordering.lt a b = a < b
Compared Ordering.eq a b = a ≡ b
Compared Ordering.gt a b = b < a

-- `compare` says so
compared : (a b : ℕ) → Compared (compare a b) a b
compared a b = go (compare a b) (leb→le a b) (nleb→lt a b) (eqb→eq a b) (λ e. rw e (eqb_refl b))
  where
    go : (o : Ordering) → (T (is_le o) → a ≤ b) → (T (not (is_le o)) → b < a) → (T (compare_is_eq o) → a ≡ b) → (a ≡ b → T (compare_is_eq o))
        → Compared o a b
    go Ordering.lt h k e n = lt_of_le-ne (h tt) n
    go Ordering.eq h k e n = e tt
    go Ordering.gt h k e n = k tt

-- ---- within a half

-- s lies within a half of n / d
abbrev pub Half : ℕ → ℕ → ℕ → Type 0
Half n d s = (2 * (s * d) ≤ 2 * n + d) × (2 * n ≤ 2 * (s * d) + d)

-- q is the whole part of n / d, and r what is left
half : (q r n d : ℕ) → q * d + r ≡ n → r < d → (o : Ordering) → Compared o (r * 2) d → Half n d (closer q o)
half q r n d e l Ordering.lt c = (omega arith, omega arith)
half q r n d e l Ordering.eq c = either (closer q Ordering.eq) (omega arith) (omega arith)
  where
    -- at a tie both neighbours do
    either : (s : ℕ) → q ≤ s → s ≤ suc q → Half n d s
    either s lo hi =
        let a : q * d ≤ s * d = mul-le-mul_right d lo in
        let b : s * d ≤ suc q * d = mul-le-mul_right d hi in
        (omega (arith, suc-mul q d), omega (arith, suc-mul q d))
half q r n d e l Ordering.gt c = (omega (arith, suc-mul q d), omega (arith, suc-mul q d))

-- the rounded number lies within a half
pub rounded_half : (n d : ℕ) → 0 < d → Half n d (rounded n d)
rounded_half n d D = half (n / d) (n % d) n d (div-add-mod' n d) (mod-lt n D) (compare (n % d * 2) d) (compared (n % d * 2) d)

-- ---- how far apart
sub-mul : (a b c : ℕ) → (a - b) * c ≡ a * c - b * c
sub-mul a b c = mul_comm (a - b) c ∙ mul-sub c a b ∙ ap₂ (λ x y. x - y) (mul_comm c a) (mul_comm c b)

-- both numbers may be multiplied
pub apart_mul : (a b c : ℕ) → apart a b * c ≡ apart (a * c) (b * c)
apart_mul a b c = add-mul (a - b) (b - a) c ∙ ap₂ (λ x y. x + y) (sub-mul a b c) (sub-mul b a c)

-- what lies within a half lies no farther than any other whole number
pub half_nearest : (n d s m : ℕ) → Half n d s → apart (s * d) n ≤ apart (m * d) n
half_nearest n d s m h = go (below_or_not s m) (below_or_not m s)
  where
    go : (s < m) ⊎ (m ≤ s) → (m < s) ⊎ (s ≤ m) → apart (s * d) n ≤ apart (m * d) n
    go (inl l) k = let a : suc s * d ≤ m * d = mul-le-mul_right d l in omega (arith, suc-mul s d, h.0, h.1)
    go (inr g) (inl l) = let a : suc m * d ≤ s * d = mul-le-mul_right d l in omega (arith, suc-mul m d, h.0, h.1)
    go (inr g) (inr k) = let e : s ≡ m = omega arith in rw e (omega arith)

-- ---- a tie

-- q is the whole part of n / d, r what is left, and m another whole number
tie : (q r n d m : ℕ) → q * d + r ≡ n → r < d → (o : Ordering) → Compared o (r * 2) d → apart (closer q o * d) n ≡ apart (m * d) n
    → (closer q o ≡ m → ⊥) → closer q o % 2 ≡ 0
tie q r n d m e l Ordering.lt c t u = absurd (go (below_or_not q m))
  where
    go : (q < m) ⊎ (m ≤ q) → ⊥
    go (inl k) = let a : suc q * d ≤ m * d = mul-le-mul_right d k in omega (arith, suc-mul q d)
    go (inr k) = let a : suc m * d ≤ q * d = mul-le-mul_right d (lt_of_le-ne k (λ z. u (sym z))) in omega (arith, suc-mul m d)
tie q r n d m e l Ordering.eq c t u = omega arith
tie q r n d m e l Ordering.gt c t u = absurd (go (below_or_not q m))
  where
    go : (q < m) ⊎ (m ≤ q) → ⊥
    go (inl k) = let a : suc (suc q) * d ≤ m * d = mul-le-mul_right d (lt_of_le-ne k u) in omega (arith, suc-mul (suc q) d, suc-mul q d)
    go (inr k) = let a : m * d ≤ q * d = mul-le-mul_right d k in omega (arith, suc-mul q d)

-- where another whole number lies as near, the rounded one is even
pub rounded_even : (n d m : ℕ) → 0 < d → apart (rounded n d * d) n ≡ apart (m * d) n → (rounded n d ≡ m → ⊥) → rounded n d % 2 ≡ 0
rounded_even n d m D t u =
    tie (n / d) (n % d) n d m (div-add-mod' n d) (mod-lt n D) (compare (n % d * 2) d) (compared (n % d * 2) d) t u
