-- How many of the numbers are no less than the one at place k, and so how much all of them weigh at least.
-- Assumes nothing.
use mathlib.Core.Path.{◌≡◌, refl}
use mathlib.Core.Bool.{Bool, true, false, cond}
use mathlib.Core.List.{List, [], ◌∷◌}
use Prim.Native.Nat.{ℕ, zero, suc, ◌+◌, ◌*◌, ◌≤◌, ◌<◌}
use native.Mathlib.Nat.{suc-mul, add-mul, mul-le-mul_right}
use native.Mathlib.Omega.{arith}
use lib.Dec.{leb, leb-zero}
use lib.ListN.{length}
use borrow.Author.Tests.{leb-true}
use Rattle.params.specs.Words.{sum}
use Rattle.quartile.specs.Counts.{count, count_ge}
use Rattle.quartile.specs.Quartile.{place}
use Rattle.quartile.proofs.Counts.{count_all, count_split}
use Rattle.quartile.proofs.Order.{place_few}

-- all numbers but k, at least, are no less than the one at place k
pub place_above : (xs : List ℕ) (k : ℕ) → k < length xs → length xs ≤ k + count_ge (place xs k) xs
unfolding count_ge
place_above xs k h = go (place xs k) refl
  where
    go : (q : ℕ) → place xs k ≡ q → length xs ≤ k + count_ge q xs
    go zero e = omega (arith, count_all (λ x. leb 0 x) leb-zero xs)
    go (suc v) e = omega (arith, count_split v xs, place_few xs k v h (omega arith))

-- the numbers that are no less than q weigh at least q each
pub sum_above : (q : ℕ) (xs : List ℕ) → count_ge q xs * q ≤ sum xs
unfolding count count_ge sum
sum_above q [] = omega arith
sum_above q (x ∷ xs) = go (leb q x) refl (sum_above q xs)
  where
    go : (b : Bool) → leb q x ≡ b → count_ge q xs * q ≤ sum xs → (cond b 1 0 + count_ge q xs) * q ≤ x + sum xs
    go true e ih = omega (arith, leb-true q x e, suc-mul (count_ge q xs) q)
    go false e ih = omega arith

-- the number at place k, taken once for each place from k on, weighs no more than all numbers
pub heavy : (xs : List ℕ) (k : ℕ) → k < length xs → length xs * place xs k ≤ sum xs + k * place xs k
heavy xs k h = go (place xs k) (count_ge (place xs k) xs) (place_above xs k h) (sum_above (place xs k) xs)
  where
    go : (q n : ℕ) → length xs ≤ k + n → n * q ≤ sum xs → length xs * q ≤ sum xs + k * q
    go q n l s = omega (arith, mul-le-mul_right q l, add-mul k n q)
