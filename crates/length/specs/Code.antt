-- The code of a length (docs/RULES.md, section 4, step 2).
-- Assumes nothing.
use Rattle.std.specs.Prelude.{ℕ, suc, cond, List, [], ◌∷◌, ltb, length, Result, Ok, Err}
use Rattle.params.specs.declared.Refusal.{Refusal}
use Rattle.params.specs.declared.Refusal.TheVariants.{NoLengthCode}
use Rattle.length.specs.Tops.{tops}

-- the place of the first number of a list that is not below n; the list's length where there is none
abbrev pub first_from : ℕ → List ℕ → ℕ
first_from n [] = 0
first_from n (t ∷ ts) = cond (ltb t n) (suc (first_from n ts)) 0

-- the first code whose top length is not below n; a refusal if there is none
unfoldable pub coded : ℕ → Result ℕ Refusal
coded n = cond (ltb (first_from n tops) (length tops)) (Ok (first_from n tops)) (Err NoLengthCode)
