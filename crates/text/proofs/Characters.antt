-- The character of a digit, as the code makes it: past 9 it skips the gap between 9 and A.
-- Assumes nothing.
use mathlib.Core.Path.{◌≡◌}
use mathlib.Core.Bool.{Bool}
use mathlib.Core.List.{[], ◌∷◌}
use Prim.Native.Nat.{ℕ, ◌+◌, ◌*◌, ◌/◌, ◌%◌, ◌<◌}
use native.Mathlib.Omega.{arith}
use lib.Dec.{T, ltb, eqb, ltb→lt, eqb→eq}
use Rattle.params.proofs.Every.{below}
use Rattle.text.specs.Text.{digit_of}

-- what the code makes of two halves
abbrev pair_made : ℕ → ℕ → ℕ
pair_made a b = a + 256 * b + 12_336 + 7 * ((a + 256 * b + 1_542) / 16 % 2 + 256 * ((a + 256 * b + 1_542) / 4_096 % 2))

-- it is the number of both characters
pub pair_made_lem : (a b : ℕ) → a < 16 → b < 16 → pair_made a b ≡ digit_of a + 256 * digit_of b
unfolding digit_of
pair_made_lem a b h k =
    let e : (a + 16 * b) % 16 ≡ a = omega arith in
    let f : (a + 16 * b) / 16 ≡ b = omega arith in
    let test : ℕ → Bool = λ (n : ℕ). eqb (pair_made (n % 16) (n / 16)) (digit_of (n % 16) + 256 * digit_of (n / 16)) in
    let p : T (test (a + 16 * b)) = below test 256 tt (a + 16 * b) (omega arith) in
    eqb→eq (pair_made a b) (digit_of a + 256 * digit_of b) (rw (e, f) at p)

-- a character is below 128
pub digit_small : (n : ℕ) → n < 16 → digit_of n < 128
unfolding digit_of
digit_small n h = ltb→lt (digit_of n) 128 (below (λ (x : ℕ). ltb (digit_of x) 128) 16 tt n h)

-- the two bytes of that number are the two characters
pub two_characters : (a b p : ℕ) → a < 16 → b < 16 → p ≡ digit_of a + 256 * digit_of b
    → p % 256 ∷ p / 256 % 256 ∷ [] ≡ digit_of a ∷ digit_of b ∷ []
two_characters a b p h k q =
    let x = digit_small a h in
    let y = digit_small b k in
    let e : p % 256 ≡ digit_of a = omega arith in
    let f : p / 256 ≡ digit_of b = omega arith in
    let g : digit_of b % 256 ≡ digit_of b = omega arith in
    rw (e, f, g)
