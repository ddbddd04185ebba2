-- A word is n fields of k + k bits. `(y & m) + ((y >> k) & m)`, where the mask m has the k low bits of each field, adds the two halves
-- of every field at once.
-- Assumes nothing.
use mathlib.Core.Path.{◌≡◌, refl, sym, ap, ap₂, ◌∙◌}
use Prim.Native.Nat.{ℕ, zero, suc, ◌+◌, ◌-◌, ◌*◌, ◌/◌, ◌%◌, ◌^◌}
use native.Mathlib.Nat.{mod-lt, add-mul, add_assoc, add_comm, add_left_comm, lt_of_lt_of_le, le-add_right}
use lib.Pow.{pow_pos, pow_mono, split, shr-shr, mod-mod-pow, ones_lt}
use lib.Bits.{bit_and, and_block, and_mask, and_zero_r}

-- the mask of n fields
unfoldable pub lows : ℕ → ℕ → ℕ
lows k zero = 0
lows k (suc n) = lows k n * 2 ^ (k + k) + (2 ^ k - 1)

-- the low half of each of n fields of y, and 0 in the high one
unfoldable kept : ℕ → ℕ → ℕ → ℕ
kept k zero y = 0
kept k (suc n) y = kept k n (y / 2 ^ (k + k)) * 2 ^ (k + k) + y % 2 ^ k

-- in each of n fields the sum of the two halves of y's
unfoldable pub halves : ℕ → ℕ → ℕ → ℕ
halves k zero y = 0
halves k (suc n) y = halves k n (y / 2 ^ (k + k)) * 2 ^ (k + k) + (y % 2 ^ k + y / 2 ^ k % 2 ^ k)

-- the mask keeps the low halves
masked : (k n y : ℕ) → bit_and y (lows k n) ≡ kept k n y
unfolding lows kept
masked k zero y = and_zero_r y
masked k (suc n) y =
    let f = 2 ^ (k + k) in
    let high = y / 2 ^ (k + k) in
    let low = y % 2 ^ (k + k) in
    ap (λ (w : ℕ). bit_and w (lows k n * f + (2 ^ k - 1))) (sym (split y (k + k)))
    ∙ and_block (k + k) high (lows k n) low (2 ^ k - 1) (mod-lt y (pow_pos (k + k)))
    (lt_of_lt_of_le (ones_lt k) (pow_mono (le-add_right k k)))
    ∙ ap₂ (λ (u v : ℕ). u * f + v) (masked k n high) (and_mask low k ∙ mod-mod-pow y k k)

-- a shift by half a field and one by a field, in either order
shifts : (k y : ℕ) → y / 2 ^ k / 2 ^ (k + k) ≡ y / 2 ^ (k + k) / 2 ^ k
shifts k y = shr-shr y k (k + k) ∙ ap (λ (e : ℕ). y / 2 ^ e) (add_comm k (k + k)) ∙ sym (shr-shr y (k + k) k)

-- fields are added one by one
fieldwise : (f a b u v : ℕ) → (a * f + u) + (b * f + v) ≡ (a + b) * f + (u + v)
fieldwise f a b u v =
    add_assoc (a * f) u (b * f + v)
    ∙ ap (λ (w : ℕ). a * f + w) (add_left_comm u (b * f) v)
    ∙ sym (add_assoc (a * f) (b * f) (u + v))
    ∙ ap (λ (w : ℕ). w + (u + v)) (sym (add-mul a b f))

-- the low halves and the high ones make the sums
kept_both : (k n y : ℕ) → kept k n y + kept k n (y / 2 ^ k) ≡ halves k n y
unfolding kept halves
kept_both k zero y = refl
kept_both k (suc n) y =
    let f = 2 ^ (k + k) in
    let high = y / 2 ^ (k + k) in
    fieldwise f (kept k n high) (kept k n (y / 2 ^ k / f)) (y % 2 ^ k) (y / 2 ^ k % 2 ^ k)
    ∙ ap (λ (w : ℕ). w * f + (y % 2 ^ k + y / 2 ^ k % 2 ^ k))
    (ap (λ (w : ℕ). kept k n high + kept k n w) (shifts k y) ∙ kept_both k n high)

-- what the code computes, with any mask
abbrev pub added : ℕ → ℕ → ℕ → ℕ
added mask k y = bit_and y mask + bit_and (y / 2 ^ k) mask

-- with the mask of n fields it is the sums of the halves
pub added_halves : (mask k n y : ℕ) → mask ≡ lows k n → added mask k y ≡ halves k n y
added_halves mask k n y e =
    ap (λ (m : ℕ). added m k y) e ∙ ap₂ (λ (u v : ℕ). u + v) (masked k n y) (masked k n (y / 2 ^ k)) ∙ kept_both k n y
