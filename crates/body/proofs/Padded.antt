-- A list of bytes with a row of zeros after it: each entry is a byte, and each after the list is 0.
-- Assumes nothing.
use mathlib.Core.Path.{◌≡◌, refl}
use mathlib.Core.List.{List, [], ◌∷◌, ◌++◌}
use Prim.Native.Nat.{ℕ, zero, suc, ◌≤◌, ◌<◌}
use native.Mathlib.Nat.{not-suc-le-zero, le_of_suc-le-suc}
use native.Mathlib.Omega.{arith}
use lib.ListN.{length, get_or, replicate}

-- every entry of a row of zeros, and of what follows it, is 0
pub zeros_at : (n i : ℕ) → get_or {A = ℕ} (replicate n 0) i 0 ≡ 0
zeros_at zero i = refl
zeros_at (suc n) zero = refl
zeros_at (suc n) (suc i) = zeros_at n i

-- each entry is a byte
pub padded_small : (xs : List ℕ) (n : ℕ) → ((i : ℕ) → get_or xs i 0 < 256) → (i : ℕ) → get_or (xs ++ replicate n 0) i 0 < 256
padded_small [] n p i = omega (arith, zeros_at n i)
padded_small (x ∷ xs) n p zero = p 0
padded_small (x ∷ xs) n p (suc i) = padded_small xs n (λ (k : ℕ). p (suc k)) i

-- each after the list is 0
pub padded_rest : (xs : List ℕ) (n i : ℕ) → length xs ≤ i → get_or (xs ++ replicate n 0) i 0 ≡ 0
padded_rest [] n i h = zeros_at n i
padded_rest (x ∷ xs) n zero h = absurd (not-suc-le-zero h)
padded_rest (x ∷ xs) n (suc i) h = padded_rest xs n i (le_of_suc-le-suc h)
