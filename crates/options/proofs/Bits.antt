-- A test of one bit is the test of that binary digit.
-- Assumes nothing.
use mathlib.Core.Path.{◌≡◌, refl}
use mathlib.Core.Bool.{not}
use Prim.Native.Nat.{ℕ, ◌*◌, ◌/◌, ◌%◌, ◌<◌}
use native.Mathlib.Omega.{arith}
use native.Mathlib.Decide.{ℕ_discrete}
use lib.Dec.{eqb}
use borrow.Author.Tests.{eq-eqb, ne_eqb}
use Rattle.std.specs.Prelude.{bit_and}
use Rattle.std.proofs.lemmas.Nat.Bits.{and_high}

-- w times the digit b is 0 where the digit is
digit : (b w : ℕ) → b < 2 → 0 < w → Dec (b ≡ 1) → not (eqb (b * w) 0) ≡ eqb b 1
digit b w l p (yes e) = rw (e, ne_eqb (1 * w) 0 (λ z. absurd (omega arith))) refl
digit b w l p (no n) = let z : b ≡ 0 = omega (arith, n) in rw (z, eq-eqb (0 * w) 0 (omega arith)) refl

bit : (n w : ℕ) → 0 < w → bit_and n w ≡ n / w % 2 * w → not (eqb (bit_and n w) 0) ≡ eqb (n / w % 2) 1
bit n w p e = rw e (digit (n / w % 2) w (omega arith) p (ℕ_discrete _ _))

-- the five bits of an option number
module _ (n : ℕ) where
  pub bit_1 : not (eqb (bit_and n 1) 0) ≡ eqb (n / 1 % 2) 1
  bit_1 = bit n 1 (omega arith) (and_high n 1 0)

  pub bit_2 : not (eqb (bit_and n 2) 0) ≡ eqb (n / 2 % 2) 1
  bit_2 = bit n 2 (omega arith) (and_high n 1 1)

  pub bit_4 : not (eqb (bit_and n 4) 0) ≡ eqb (n / 4 % 2) 1
  bit_4 = bit n 4 (omega arith) (and_high n 1 2)

  pub bit_8 : not (eqb (bit_and n 8) 0) ≡ eqb (n / 8 % 2) 1
  bit_8 = bit n 8 (omega arith) (and_high n 1 3)

  pub bit_16 : not (eqb (bit_and n 16) 0) ≡ eqb (n / 16 % 2) 1
  bit_16 = bit n 16 (omega arith) (and_high n 1 4)

pub ruleset bits = (bit_1, bit_2, bit_4, bit_8, bit_16)
