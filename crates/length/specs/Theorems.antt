-- What holds of the top lengths, the codes and the limits, as statements (docs/RULES.md, section 4, steps 1 and 2).
-- Assumes nothing.
use Rattle.std.specs.Prelude.{ℕ, ◌≤◌, ◌<◌, ◌≡◌, get_or, Ok, Err}
use Rattle.params.specs.declared.Refusal.TheVariants.{NoLengthCode}
use Rattle.length.specs.Tops.{tops}
use Rattle.length.specs.Code.{coded}
use Rattle.length.specs.Limits.{maximum}

-- the top lengths rise strictly: a later code has a greater one
abbrev pub TopsRising : Type 0
TopsRising = (i j : ℕ) → i < j → j < 170 → get_or tops i 0 < get_or tops j 0

-- a length n has the code c: c is what is answered, its top is not below n, and each earlier top is
pub record IsCode (n c : ℕ) : Type 0 where
  pub given : coded n ≡ Ok c
  pub small : c < 170
  pub reaches : n ≤ get_or tops c 0
  pub first : (k : ℕ) → k < c → get_or tops k 0 < n

-- up to the last top every length has a code
abbrev pub HasCode : Type 0
HasCode = (n : ℕ) → n ≤ 4_224_281_216 → (c : ℕ) × IsCode n c

-- beyond it none has
abbrev pub NoCode : Type 0
NoCode = (n : ℕ) → 4_224_281_216 < n → coded n ≡ Err NoLengthCode

-- length 0 has code 0
abbrev pub ZeroCode : Type 0
ZeroCode = coded 0 ≡ Ok 0

-- the maximum of every variant is the last top
abbrev pub MaximumTop : Type 0
MaximumTop = (v : ℕ) → maximum v ≡ get_or tops 169 0
