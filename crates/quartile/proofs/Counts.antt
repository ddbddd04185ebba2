-- Laws of counting: how many of a list's numbers pass a test.
-- Assumes nothing.
use mathlib.Core.Path.{◌≡◌, refl}
use mathlib.Core.Bool.{Bool, true, false, cond, not}
use mathlib.Core.List.{List, [], ◌∷◌, ◌++◌}
use Prim.Native.Nat.{ℕ, zero, suc, ◌+◌, ◌≤◌}
use native.Mathlib.Omega.{arith}
use lib.Dec.{leb, eqb, leb-suc-zero}
use lib.ListN.{length}
use borrow.Author.Tests.{ne_eqb, leb-true, leb-false, le-leb, lt-leb}
use Rattle.quartile.specs.Counts.{count, non_zero, count_le, count_ge, largest}

-- one number counts at most once
pub one_most : (b : Bool) → cond b 1 0 ≤ 1
one_most true = omega arith
one_most false = omega arith

-- no more numbers pass than there are
pub count_most : (f : ℕ → Bool) (xs : List ℕ) → count f xs ≤ length xs
unfolding count
count_most f [] = omega arith
count_most f (x ∷ xs) = omega (arith, one_most (f x), count_most f xs)

-- a test that no number fails counts all
pub count_all : (f : ℕ → Bool) → ((x : ℕ) → f x ≡ true) → (xs : List ℕ) → count f xs ≡ length xs
unfolding count
count_all f e [] = refl
count_all f e (x ∷ xs) = rw (e x) (omega (arith, count_all f e xs))

-- the counts of two lists add up to that of both
pub count_append : (f : ℕ → Bool) (xs ys : List ℕ) → count f (xs ++ ys) ≡ count f xs + count f ys
unfolding count
count_append f [] ys = omega arith
count_append f (x ∷ xs) ys = omega (arith, count_append f xs ys)

-- where a number passes one of two tests and never both, the two counts are the number of all
pub count_both : (f g : ℕ → Bool) → ((x : ℕ) → g x ≡ not (f x)) → (xs : List ℕ) → count f xs + count g xs ≡ length xs
unfolding count
count_both f g e [] = omega arith
count_both f g e (x ∷ xs) = go (f x) (e x) (count_both f g e xs)
  where
    go : (b : Bool) → g x ≡ not b → count f xs + count g xs ≡ length xs
        → cond b 1 0 + count f xs + (cond (g x) 1 0 + count g xs) ≡ suc (length xs)
    go true q ih = rw q (omega arith)
    go false q ih = rw q (omega arith)

-- the numbers at most 0, and those that are not 0, are all
pub count_non_zero : (xs : List ℕ) → count_le 0 xs + non_zero xs ≡ length xs
unfolding count_le non_zero
count_non_zero xs = count_both (λ x. leb x 0) (λ x. not (eqb x 0)) same xs
  where
    same : (x : ℕ) → not (eqb x 0) ≡ not (leb x 0)
    same zero = refl
    same (suc x) = rw (ne_eqb (suc x) 0 (λ (e : suc x ≡ 0). omega arith), leb-suc-zero x)

-- the numbers at most v, and those at least v + 1, are all
pub count_split : (v : ℕ) (xs : List ℕ) → count_le v xs + count_ge (suc v) xs ≡ length xs
unfolding count_le count_ge
count_split v xs = count_both (λ x. leb x v) (λ x. leb (suc v) x) other xs
  where
    other : (x : ℕ) → leb (suc v) x ≡ not (leb x v)
    other x = go (leb x v) refl
      where
        go : (b : Bool) → leb x v ≡ b → leb (suc v) x ≡ not b
        go true e = lt-leb (suc v) x (omega (arith, leb-true x v e))
        go false e = le-leb (suc v) x (omega (arith, leb-false x v e))

-- every number is at most the largest
pub count_largest : (v : ℕ) (xs : List ℕ) → largest xs ≤ v → count_le v xs ≡ length xs
unfolding count count_le largest
count_largest v [] h = refl
count_largest v (x ∷ xs) h =
    let l : x ≤ v = omega arith in
    let ih : count_le v xs ≡ length xs = count_largest v xs (omega arith) in
    rw (le-leb x v l) (omega arith)
