-- The definitions against the logic's account of IEEE 754: `single n d` is what it rounds n / d to, and the floating path's quotient is
-- what it converts, divides and truncates to.
-- Assumes nothing.
use Rattle.std.proofs.Common.{◌≡◌, ℕ, suc, ◌+◌, ◌-◌, ◌*◌, ◌/◌, ◌%◌, ◌^◌, ◌<◌, ◌≤◌, true, false, T, leb, ◌⊎◌, pos, sym, refl, ap, ◌∙◌, inl, inr, true≢false, le_of_eq, lt_of_lt_of_le, lt_of_le_of_lt, mul-le-mul_right, mod-lt, mod-eq_of_lt, mul_assoc, mul_comm, div-lt_iff_lt-mul, eq-zero-or-pos, mul-le-mul, le_antisymm, mul-lt-mul_of_pos_right, mul-pos, lt_of_not-le, le-div_iff_mul-le, zero-mul, mul_right_comm, not-le_of_lt, mul_left_comm, arith, lit<, ltb→lt, pow_pos, pow_mono, pow-add, ne_eqb}
use Prim.Native.Nat.{compare, Ordering}
use native.Mathlib.Nat.{eq_of_mul-eq-mul_right, min-eq_left}
use lib.Ieee.{Float, nan, inf, fin, binary32, up, down, size, nearest, odd, of_fields, of_bits, to_bits, fits, round, of_int, to_unsigned, div}
use lib.Ieee.Digits.{size-lt, size-le}
use lib.Ieee.Fits.{up_pos, down_pos, round-fits}
use lib.Ieee.Bits.{of_bits-to_bits, of_bits-fits}
use lib.Ieee.Exact.{HasValue, odd_sign, round_exact}
use lib.Ieee.Nearest.{closest, closest_same, div_same}
use lib.Ieee.Scale.{grid, round_val, round_same}
use lib.Ieee.Positive.{positive_of_value}
use borrow.Author.Tests.{lt-leb}
use Rattle.qratios.specs.Single.{Single, nought, top, bottom, bits, closer, rounded, single, divided}
use Rattle.qratios.specs.Ratios.{float, reduced, quotient}
use Rattle.qratios.proofs.Shape.{Shape, shape, single_zero}
use Rattle.qratios.proofs.Carry.{Normal, normal, normal_bits, carries}
use Rattle.qratios.proofs.Divide.{top_pos, shape_whole, shape_divided, divided_zero, quotient_is}

-- ---- two values that the format holds and that are the same number are the same value

-- a value's bits, from any fraction that it equals
bits_of : (x : Float) (a c : ℕ) → 0 < c → HasValue x false a c
    → to_bits binary32 x ≡ 0 + (size (a * 2 ^ 149 / c) - 24) * 8388608 + a * 2 ^ 149 / c / 2 ^ (size (a * 2 ^ 149 / c) - 24)
unfolding to_bits
bits_of nan a c C h = absurd h
bits_of (inf s) a c C h = absurd h
bits_of (fin true m e) a c C h = absurd (true≢false h.0)
bits_of (fin false m e) a c C h = ap (λ n. 0 + (size n - 24) * 8388608 + n / 2 ^ (size n - 24)) equal
  where
    equal : m * up e * 2 ^ 149 / down e ≡ a * 2 ^ 149 / c
    equal =
        div_same (m * up e * 2 ^ 149) (down e) (a * 2 ^ 149) c (down_pos e) C
        (mul_right_comm (m * up e) (2 ^ 149) c ∙ ap (λ z. z * 2 ^ 149) h.1 ∙ mul_right_comm a (down e) (2 ^ 149))

-- so two of one fraction are the same
same_value : (x y : Float) (a c : ℕ) → 0 < c → T (fits binary32 x) → T (fits binary32 y) → HasValue x false a c → HasValue y false a c
    → x ≡ y
same_value x y a c C F G h k =
    sym (of_bits-to_bits binary32 x F) ∙ ap (of_bits binary32) (bits_of x a c C h ∙ sym (bits_of y a c C k)) ∙ of_bits-to_bits binary32 y G

-- from one fraction to another of the same size
rescale : (x : Float) (a c b d : ℕ) → 0 < c → b * c ≡ a * d → HasValue x false a c → HasValue x false b d
rescale nan a c b d C e h = h
rescale (inf t) a c b d C e h = h
rescale (fin t m k) a c b d C e h = (h.0, eq_of_mul-eq-mul_right c C (m * up k * d) (b * down k) equal)
  where
    equal : m * up k * d * c ≡ b * down k * c
    equal =
        mul_right_comm (m * up k) d c ∙ ap (λ z. z * d) h.1 ∙ mul_right_comm a (down k) d ∙ ap (λ z. z * down k) (sym e)
        ∙ mul_right_comm b c (down k)

-- ---- what the bits of a number stand for

-- the three fields of 32 bits
of_bits_is : (b : ℕ) → of_bits binary32 b ≡ of_fields binary32 (leb 2147483648 b) (b % 2147483648 / 8388608) (b % 8388608)
unfolding of_bits
of_bits_is b = refl

-- eight bits from 1 to 254 give a significand of 24 digits
fields_are : (t x : ℕ) → suc x < 255 → of_fields binary32 false (suc x) t ≡ odd 24 false (8388608 + t) x 149
unfolding of_fields
fields_are t x h = rw (ne_eqb (suc x) 255 (λ e. omega arith))

-- eight bits x + 1 from 1 to 254, and 23 digits t
fields_value : (b x t : ℕ) → b ≡ suc x * 8388608 + t → t < 8388608 → suc x < 255
    → HasValue (of_bits binary32 b) false ((8388608 + t) * 2 ^ x) (2 ^ 149)
fields_value b x t e l h = rw is (odd_sign 24 false (8388608 + t) x 149)
  where
    small : b < 2147483648
    small = omega arith

    eight : b / 8388608 ≡ suc x
    eight = omega arith

    digits : b % 8388608 ≡ t
    digits = omega arith

    is : of_bits binary32 b ≡ odd 24 false (8388608 + t) x 149
    is = of_bits_is b ∙ rw (lt-leb 2147483648 b small, mod-eq_of_lt small, eight, digits) (fields_are t x h)

-- the float of a number has its value
pub float_value : (x : Single) → Normal x → HasValue (float x) false (top x) (bottom x)
float_value x h =
    rescale (float x) ((8388608 + t) * 2 ^ k) (2 ^ 149) (top x) (bottom x) (pow_pos 149)
    (mul_assoc s (2 ^ u) (2 ^ 149) ∙ ap (λ y. s * y) powers ∙ sym (mul_assoc s (2 ^ k) (2 ^ v)) ∙ ap (λ y. y * 2 ^ k * 2 ^ v) back)
    (fields_value (bits x) k t (normal_bits x h.sig_ge ∙ ap (λ y. y * 8388608 + t) one) (omega (arith, h.sig_ge, h.sig_lt))
    (omega (arith, h.times_le, h.over_le)))
  where
    s : ℕ
    s = x.sig

    u : ℕ
    u = x.times

    v : ℕ
    v = x.over

    k : ℕ
    k = 149 + u - v

    t : ℕ
    t = s - 8388608

    powers : 2 ^ u * 2 ^ 149 ≡ 2 ^ k * 2 ^ v
    powers = sym (pow-add 2 u 149) ∙ ap (λ y. 2 ^ y) (omega (arith, h.over_le)) ∙ pow-add 2 k v

    back : s ≡ 8388608 + t
    back = omega (arith, h.sig_ge)

    one : 150 + u - v ≡ suc k
    one = omega (arith, h.over_le)

-- ---- what `round` keeps of n / d, and how many digits it drops

-- both round a whole part in one way
closer_is : (q : ℕ) (o : Ordering) → closer q o ≡ nearest q o
closer_is q Ordering.lt = refl
closer_is q Ordering.eq = refl
closer_is q Ordering.gt = refl

-- a number from 2 ^ z on and below 2 ^ (z + 1) has z + 1 digits
size_is : (n z : ℕ) → 2 ^ z ≤ n → n < 2 ^ suc z → size n ≡ suc z
size_is n z lo hi =
    le_antisymm (size-le n (suc z) hi)
    (lt_of_not-le (λ (g : size n ≤ z). not-le_of_lt (lt_of_lt_of_le (size-lt n) (pow_mono g)) lo))

module _ (n d u v : ℕ) (D : 0 < d) (v_le : v ≤ 100) (lo : 8388608 * (d * 2 ^ u) ≤ n * 2 ^ v) (hi : n * 2 ^ v < 16777216 * (d * 2 ^ u)) where
  -- the digits that it drops
  abbrev k : ℕ
  k = u + (149 - v)

  -- v doublings and 149 - v more
  all : 2 ^ v * 2 ^ (149 - v) ≡ 2 ^ 149
  all = let e : v + (149 - v) ≡ 149 = omega arith in sym (pow-add 2 v (149 - v)) ∙ ap (λ y. 2 ^ y) e

  -- the numerator, in the format's smallest units
  lifted : n * 2 ^ v * 2 ^ (149 - v) ≡ n * 2 ^ 149
  lifted = mul_assoc n (2 ^ v) (2 ^ (149 - v)) ∙ ap (λ y. n * y) all

  -- the denominator, in those units
  spread : (j : ℕ) → 2 ^ j * (d * 2 ^ u) * 2 ^ (149 - v) ≡ 2 ^ (j + k) * d
  spread j =
      arrange (2 ^ j) d (2 ^ u) (2 ^ (149 - v))
      ∙ ap (λ y. y * d) (ap (λ y. 2 ^ j * y) (sym (pow-add 2 u (149 - v))) ∙ sym (pow-add 2 j k))
    where
      arrange : (a b c e : ℕ) → a * (b * c) * e ≡ a * (c * e) * b
      arrange a b c e = simp (mul_assoc, mul_comm, mul_left_comm)

  -- n * 2 ^ 149 / d has 24 digits more than that
  digits : size (n * 2 ^ 149 / d) ≡ suc (23 + k)
  digits = size_is (n * 2 ^ 149 / d) (23 + k) ((le-div_iff_mul-le D).1 least) ((div-lt_iff_lt-mul D).1 most)
    where
      least : 2 ^ (23 + k) * d ≤ n * 2 ^ 149
      least = rw (← spread 23, ← lifted) (mul-le-mul_right (2 ^ (149 - v)) lo)

      most : n * 2 ^ 149 < 2 ^ suc (23 + k) * d
      most =
          let e : suc (23 + k) ≡ 24 + k = omega arith in
          rw (e, ← spread 24, ← lifted) (mul-lt-mul_of_pos_right hi (pow_pos (149 - v)))

  -- what it keeps is the definition's significand
  keeps : closest (n * 2 ^ 149) (d * 2 ^ k) ≡ rounded (n * 2 ^ v) (d * 2 ^ u)
  keeps =
      closest_same (n * 2 ^ 149) (d * 2 ^ k) (n * 2 ^ v) (d * 2 ^ u) (mul-pos D (pow_pos k)) (mul-pos D (pow_pos u)) equal
      ∙ sym (closer_is (n * 2 ^ v / (d * 2 ^ u)) (compare (n * 2 ^ v % (d * 2 ^ u) * 2) (d * 2 ^ u)))
    where
      arrange : (a b c e : ℕ) → a * b * (c * e) ≡ a * (c * (e * b))
      arrange a b c e = simp (mul_assoc, mul_comm, mul_left_comm)

      equal : n * 2 ^ 149 * (d * 2 ^ u) ≡ n * 2 ^ v * (d * 2 ^ k)
      equal =
          ap (λ y. y * (d * 2 ^ u)) (sym lifted) ∙ arrange (n * 2 ^ v) (2 ^ (149 - v)) d (2 ^ u)
          ∙ ap (λ y. n * 2 ^ v * (d * y)) (sym (pow-add 2 u (149 - v)))

  -- so it rounds to that significand, times the power that it dropped
  grid_is : grid binary32 n d ≡ rounded (n * 2 ^ v) (d * 2 ^ u) * 2 ^ k
  grid_is =
      let drops : size (n * 2 ^ 149 / d) - 24 ≡ k = omega (arith, digits) in
      ap (λ z. closest (n * 2 ^ 149) (d * 2 ^ z) * 2 ^ z) drops ∙ ap (λ y. y * 2 ^ k) keeps

-- ---- `round` gives `single`

-- `round` has the value of the definition's number
round_value : (n d : ℕ) (x : Single) → 0 < d → Shape n d x → HasValue (round binary32 false n d) false (top x) (bottom x)
round_value n d x D h =
    rescale (round binary32 false n d) (grid binary32 n d) (2 ^ 149) (top x) (bottom x) (pow_pos 149) equal
    (round_val binary32 n d (lt_of_le_of_lt (le_of_eq g) (lt_of_le_of_lt (mul-le-mul h.s_le (pow_mono few)) (lit< tt))))
  where
    s : ℕ
    s = h.s

    e : ℕ
    e = h.u + (149 - h.v)

    few : e ≤ 249
    few = omega (arith, h.u_le)

    g : grid binary32 n d ≡ s * 2 ^ e
    g = grid_is n d h.u h.v D h.v_le h.lo h.hi ∙ ap (λ y. y * 2 ^ e) (sym h.s_is)

    powers : 2 ^ h.v * 2 ^ (149 - h.v) ≡ 2 ^ 149
    powers = all n d h.u h.v D h.v_le h.lo h.hi

    equal : top x * 2 ^ 149 ≡ grid binary32 n d * bottom x
    equal =
        ap (λ y. top x * y) (sym powers) ∙ sym (mul_assoc (top x) (2 ^ h.v) (2 ^ (149 - h.v)))
        ∙ ap (λ y. y * 2 ^ (149 - h.v)) (carries n d x h).value ∙ mul_right_comm (s * 2 ^ h.u) (bottom x) (2 ^ (149 - h.v))
        ∙ ap (λ y. y * bottom x) (mul_assoc s (2 ^ h.u) (2 ^ (149 - h.v)) ∙ ap (λ y. s * y) (sym (pow-add 2 h.u (149 - h.v))) ∙ sym g)

-- so it is its float
round_of : (n d : ℕ) (x : Single) → 0 < d → Shape n d x → round binary32 false n d ≡ float x
round_of n d x D h =
    same_value (round binary32 false n d) (float x) (top x) (bottom x) (pow_pos x.over) (round-fits binary32 false n d)
    (of_bits-fits binary32 (bits x)) (round_value n d x D h) (float_value x (normal n d x h))

-- 0's float
zero_is : float nought ≡ fin false 0 (pos 0)
unfolding of_bits
zero_is = refl

-- it has the value 0
pub zero_value : (d : ℕ) → HasValue (float nought) false 0 d
zero_value d = rw zero_is (refl, zero-mul d)

-- 0 rounds to it
round_zero : (d : ℕ) → 0 < d → round binary32 false 0 d ≡ float nought
round_zero d D =
    same_value (round binary32 false 0 d) (float nought) 0 d D (round-fits binary32 false 0 d) (of_bits-fits binary32 0)
    (round_exact binary32 false 0 d 0 0 D (lit< tt) (lit< tt) (sym (zero-mul d))) (zero_value d)

-- n / d to the nearest f32, ties to even, is the f32 of `single n d`
pub round_single : (n d : ℕ) → 0 < d → n < 2 ^ 64 → d < 2 ^ 64 → round binary32 false n d ≡ float (single n d)
round_single n d D a b =
    elim (eq-zero-or-pos n) [
      | inl z ↦ rw (z, single_zero d) (round_zero d D)
      | inr N ↦ round_of n d (single n d) D (shape n d N D a b)
    ]

-- so is a whole number's conversion
pub converted : (n : ℕ) → n < 2 ^ 32 → of_int binary32 (pos n) ≡ float (single n 1)
unfolding of_int
converted n h = round_single n 1 (lit< tt) (omega arith) (lit< tt)

-- ---- division

-- by any fractions that the two numbers equal
div_at : (x y : Float) (a c b d : ℕ) → 0 < c → 0 < b → 0 < d → HasValue x false a c → HasValue y false b d
    → div binary32 x y ≡ round binary32 false (a * d) (b * c)
unfolding div
div_at nan y a c b d C B D h k = absurd h
div_at (inf s) y a c b d C B D h k = absurd h
div_at (fin true m e) y a c b d C B D h k = absurd (true≢false h.0)
div_at (fin false m e) nan a c b d C B D h k = absurd k
div_at (fin false m e) (inf t) a c b d C B D h k = absurd k
div_at (fin false m e) (fin true n f) a c b d C B D h k = absurd (true≢false k.0)
div_at (fin false m e) (fin false n f) a c b d C B D h k =
    rw (ne_eqb n 0 (λ z. omega (arith, n_pos)))
    (round_same binary32 false (m * up e * down f) (n * up f * down e) (a * d) (b * c) (mul-pos (mul-pos n_pos (up_pos f)) (down_pos e))
    (mul-pos B C) equal)
  where
    n_pos : 0 < n
    n_pos = ltb→lt 0 n (positive_of_value (fin false n f) b d k B)

    arrange : (m g b c : ℕ) → m * g * (b * c) ≡ m * c * (b * g)
    arrange m g b c = simp (mul_assoc, mul_comm, mul_left_comm)

    regroup : (a g n d : ℕ) → a * g * (n * d) ≡ a * d * (n * g)
    regroup a g n d = simp (mul_assoc, mul_comm, mul_left_comm)

    equal : m * up e * down f * (b * c) ≡ a * d * (n * up f * down e)
    equal =
        arrange (m * up e) (down f) b c ∙ ap (λ z. z * (b * down f)) h.1 ∙ ap (λ z. a * down e * z) (sym k.1)
        ∙ regroup a (down e) (n * up f) d

-- the quotient of two converted whole numbers is the definition's
pub divided_is : (p r : ℕ) → p < 2 ^ 32 → 0 < r → r < 2 ^ 32
    → div binary32 (float (single p 1)) (float (single r 1)) ≡ float (divided (single p 1) (single r 1))
divided_is p r p-lt R r-lt = go (eq-zero-or-pos p)
  where
    b : Single
    b = single r 1

    h : Shape r 1 b
    h = shape_whole r R r-lt

    B : 0 < top b
    B = top_pos r b R r-lt h

    value : HasValue (float b) false (top b) (bottom b)
    value = float_value b (normal r 1 b h)

    go : (p ≡ 0) ⊎ (0 < p) → div binary32 (float (single p 1)) (float b) ≡ float (divided (single p 1) b)
    go (inl z) =
        rw (z, single_zero 1, divided_zero b)
        (div_at (float nought) (float b) 0 1 (top b) (bottom b) (lit< tt) B (pow_pos b.over) (zero_value 1) value
        ∙ rw (zero-mul (bottom b)) (round_zero (top b * 1) (mul-pos B (lit< tt))))
    go (inr P) =
        let a = single p 1 in
        div_at (float a) (float b) (top a) (bottom a) (top b) (bottom b) (pow_pos a.over) B (pow_pos b.over)
        (float_value a (normal p 1 a (shape_whole p P p-lt))) value
        ∙ round_of (top a * bottom b) (top b * bottom a) (divided a b) (mul-pos B (pow_pos a.over)) (shape_divided p r P p-lt R r-lt)

-- the floating path's quotient, from the whole numbers: two conversions and a division
pub quotient_ieee : (q q3 : ℕ) → 0 < q3 → q3 < 2 ^ 32
    → div binary32 (of_int binary32 (pos (reduced q))) (of_int binary32 (pos q3)) ≡ float (quotient q q3)
quotient_ieee q q3 R r-lt =
    let p-lt : reduced q < 2 ^ 32 = mod-lt (100 * q) (lit< tt) in
    rw (converted (reduced q) p-lt, converted q3 r-lt, quotient_is q q3 (reduced q) refl) (divided_is (reduced q) q3 p-lt R r-lt)

-- ---- truncation, for a whole part below 2 ^ 32

-- a value truncates to the whole part of any fraction that it equals
pub truncated_value : (x : Float) (a c : ℕ) → 0 < c → a / c < 2 ^ 32 → HasValue x false a c → to_unsigned 32 x ≡ a / c
unfolding to_unsigned
truncated_value nan a c C l h = absurd h
truncated_value (inf s) a c C l h = absurd h
truncated_value (fin true m e) a c C l h = absurd (true≢false h.0)
truncated_value (fin false m e) a c C l h =
    rw (div_same (m * up e) (down e) a c (down_pos e) C h.1) (min-eq_left (omega arith))
