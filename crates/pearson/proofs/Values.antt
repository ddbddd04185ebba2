-- The values of the mapping: their ranges, the short variant's rule, and the table for the last byte.
-- Assumes nothing.
use mathlib.Core.Path.{◌≡◌, refl}
use mathlib.Core.Bool.{Bool, true, false, cond}
use mathlib.Core.List.{List, [], ◌∷◌, map}
use Prim.Native.Nat.{ℕ, ◌<◌, ◌%◌}
use native.Mathlib.Omega.{arith}
use lib.Bits.{bit_xor, xor_lt}
use lib.Dec.{eqb, ltb}
use lib.ListN.{get_or, get_or-map}
use mir.Syntax.{w8}
use mir.Val.{Fits}
use borrow.Author.Tests.{ne_eqb, lt-ltb, le-ltb}
use Rattle.pearson.specs.Table.{table}
use Rattle.pearson.specs.Mapping.{look, after, mapping, short, own, bucket, lasts}
use Rattle.pearson.specs.Theorems.{BucketBelow, BucketShort, ShortLow, ShortHigh}
use Rattle.pearson.proofs.Table.{look_lt}

-- the xor of two bytes is an index into a table of 256
pub xor_below : (s v : ℕ) → Fits w8 s → Fits w8 v → bit_xor s v < 256
xor_below s v p q = xor_lt 8 s v p.fits q.fits

-- the short value of a number below 240 is that number mod 48
pub short_low : ShortLow
unfolding short
short_low x h = rw (lt-ltb x 240 h)

-- and of any other number 48
pub short_high : ShortHigh
unfolding short
short_high x h = rw (le-ltb x 240 h)

-- either of two numbers below n is below n
cond_lt : (t : Bool) (a b n : ℕ) → a < n → b < n → cond t a b < n
cond_lt true a b n p q = p
cond_lt false a b n p q = q

-- a short value is at most 48
pub short_le : (x : ℕ) → short x < 49
unfolding short
short_le x = cond_lt (ltb x 240) (x % 48) 48 49 (omega arith) (omega arith)

-- every value of a variant's mapping is a byte
pub bucket_lt : BucketBelow
unfolding bucket own mapping after
bucket_lt v a b c d =
    let x : ℕ = mapping a b c d in
    cond_lt (eqb v 48) (short x) x 256 (omega (arith, short_le x)) (look_lt _)

-- and in the short variant it is at most 48
pub bucket_short : BucketShort
unfolding bucket own
bucket_short a b c d = short_le (mapping a b c d)

-- a variant's own value of 0 is 0
own_zero : (v : ℕ) → own v 0 ≡ 0
unfolding own short
own_zero v = go (eqb v 48)
  where
    go : (t : Bool) → cond {A = ℕ} t 0 0 ≡ 0
    go true = refl
    go false = refl

-- the table for the last byte holds the variant's own value of each entry of T
pub lasts_own : (v i : ℕ) → get_or (lasts v) i 0 ≡ own v (look i)
unfolding lasts look
lasts_own v i = rw (own_zero v) at (get_or-map (own v) table i 0)

map_same : (f : ℕ → ℕ) → ((x : ℕ) → f x ≡ x) → (xs : List ℕ) → map f xs ≡ xs
map_same f e [] = refl
map_same f e (x ∷ xs) = rw (e x, map_same f e xs)

-- outside the short variant that table is T
pub lasts_other : (v : ℕ) → (v ≡ 48 → ⊥) → lasts v ≡ table
unfolding lasts own
lasts_other v n = map_same (own v) (λ x. rw (ne_eqb v 48 n)) table
