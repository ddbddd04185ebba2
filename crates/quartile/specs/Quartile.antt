-- The quartiles of the used counters (docs/RULES.md, section 4, step 3).
-- Assumes nothing.
use Rattle.std.specs.Prelude.{ℕ, ◌-◌, ◌*◌, ◌/◌, cond, List, [], ◌∷◌, leb, length, get_or, take, Result, Ok, Err}
use Rattle.params.specs.Variants.{known}
use Rattle.params.specs.declared.Refusal.{Refusal}
use Rattle.params.specs.declared.Refusal.TheVariants.{UnknownVariant}
use Rattle.quartile.specs.declared.Quartiles.{Quartiles}

-- x put before the first number that is not below it
unfoldable pub insert : ℕ → List ℕ → List ℕ
insert x [] = x ∷ []
insert x (y ∷ ys) = cond (leb x y) (x ∷ y ∷ ys) (y ∷ insert x ys)

-- the numbers in rising order, equal ones repeated
unfoldable pub rising : List ℕ → List ℕ
rising [] = []
rising (x ∷ xs) = insert x (rising xs)

-- the number at place k of these, the first being place 0; past the last, 0
unfoldable pub place : List ℕ → ℕ → ℕ
place xs k = get_or (rising xs) k 0

-- the quartiles of N numbers stand at places N/4-1, N/2-1 and 3N/4-1 (0 less 1 is 0: fewer than four numbers have quartiles too)
unfoldable pub quartiles : List ℕ → Quartiles
quartiles xs =
    record {
      q1 = place xs (length xs / 4 - 1);
      q2 = place xs (length xs / 2 - 1);
      q3 = place xs (3 * length xs / 4 - 1);
    }

-- the answer for a variant N: the quartiles of the first N counters, or a refusal where it is none of the three
unfoldable pub answered : ℕ → List ℕ → Result Quartiles Refusal
answered v counters = cond (known v) (Ok (quartiles (take v counters))) (Err UnknownVariant)
