-- How many of a list's numbers are not 0 (docs/RULES.md, section 4, step 5), and the counts by which the number at a place is found.
-- Assumes nothing.
use Rattle.std.specs.Prelude.{ℕ, ◌+◌, max, Bool, cond, not, List, [], ◌∷◌, leb, eqb}

-- how many of the numbers pass a test
unfoldable pub count : (ℕ → Bool) → List ℕ → ℕ
count f [] = 0
count f (x ∷ xs) = cond (f x) 1 0 + count f xs

-- how many are not 0
unfoldable pub non_zero : List ℕ → ℕ
non_zero xs = count (λ x. not (eqb x 0)) xs

-- how many are at most v
unfoldable pub count_le : ℕ → List ℕ → ℕ
count_le v xs = count (λ x. leb x v) xs

-- how many are at least v
unfoldable pub count_ge : ℕ → List ℕ → ℕ
count_ge v xs = count (λ x. leb v x) xs

-- the largest of the numbers, 0 where there are none
unfoldable pub largest : List ℕ → ℕ
largest [] = 0
largest (x ∷ xs) = max x (largest xs)
