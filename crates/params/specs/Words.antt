-- Small words that the definitions of several crates share. The kit's `cond`, `◌&&◌` and `◌||◌` choose and join tests.
-- Assumes nothing.
use Rattle.std.specs.Prelude.{ℕ, suc, ◌+◌, ◌-◌, Bool, true, false, cond, ◌&&◌, List, [], ◌∷◌, Result, Ok, Err}

-- the test b, where nothing lifts it
abbrev pub unless : Bool → Bool → Bool
unless lifted b = cond lifted false b

-- how far two numbers are apart: `◌-◌` stops at 0, so one of the two terms is 0
abbrev pub apart : ℕ → ℕ → ℕ
apart a b = (a - b) + (b - a)

-- the sum of a list
unfoldable pub sum : List ℕ → ℕ
sum [] = 0
sum (x ∷ xs) = x + sum xs

-- the test f at each entry of a list and its place, counted from i
abbrev pub every : (ℕ → ℕ → Bool) → ℕ → List ℕ → Bool
every f i [] = true
every f i (x ∷ xs) = f i x && every f (suc i) xs

-- what f answers of the value of an answer; a refusal stays
abbrev pub and_then : {A B E : Type 0} → Result A E → (A → Result B E) → Result B E
and_then (Ok a) f = f a
and_then (Err e) f = Err e
