-- What holds of rising order, of its places and of the quartiles, as statements (docs/RULES.md, section 4, step 3).
-- Assumes nothing.
use Rattle.std.specs.Prelude.{ℕ, ◌+◌, ◌-◌, ◌*◌, ◌/◌, ◌≤◌, ◌<◌, ◌≡◌, Bool, List, [], ◌∷◌, length}
use Rattle.params.specs.Words.{sum}
use Rattle.quartile.specs.Counts.{count, count_le, count_ge}
use Rattle.quartile.specs.Quartile.{rising, place, quartiles}

-- ---- rising order

-- no number of the list is below x
abbrev pub From : ℕ → List ℕ → Type 0
From x [] = Unit {0}
From x (y ∷ ys) = (x ≤ y) × From x ys

-- no number of the list is below one that stands before it
abbrev pub Rising : List ℕ → Type 0
Rising [] = Unit {0}
Rising (x ∷ xs) = From x xs × Rising xs

-- rising order rises
abbrev pub RisingRises : Type 0
RisingRises = (xs : List ℕ) → Rising (rising xs)

-- and keeps the numbers: as many of them pass any test, and so each stands there as often as in the list
abbrev pub CountRising : Type 0
CountRising = (f : ℕ → Bool) (xs : List ℕ) → count f (rising xs) ≡ count f xs

-- ---- its places: the number at place k is at most v exactly where more than k of the numbers are

-- where the number at place k is at most v, more than k of the numbers are
abbrev pub PlaceCount : Type 0
PlaceCount = (xs : List ℕ) (k v : ℕ) → k < length xs → place xs k ≤ v → k < count_le v xs

-- where more than k of the numbers are at most v, the number at place k is
abbrev pub PlaceLe : Type 0
PlaceLe = (xs : List ℕ) (k v : ℕ) → k < length xs → k < count_le v xs → place xs k ≤ v

-- where the number at place k is above v, at most k of the numbers are at most v
abbrev pub PlaceFew : Type 0
PlaceFew = (xs : List ℕ) (k v : ℕ) → k < length xs → v < place xs k → count_le v xs ≤ k

-- where at most k of the numbers are at most v, the number at place k is above v
abbrev pub PlaceGt : Type 0
PlaceGt = (xs : List ℕ) (k v : ℕ) → k < length xs → count_le v xs ≤ k → v < place xs k

-- later places hold no lesser numbers
abbrev pub PlaceRises : Type 0
PlaceRises = (xs : List ℕ) (j k : ℕ) → j ≤ k → k < length xs → place xs j ≤ place xs k

-- ---- the quartiles

-- q1 is at most q2, and q2 at most q3
abbrev pub QuartilesOrdered : Type 0
QuartilesOrdered = (xs : List ℕ) → ((quartiles xs).q1 ≤ (quartiles xs).q2) × ((quartiles xs).q2 ≤ (quartiles xs).q3)

-- at least N/4+1 of N numbers are no less than q3
abbrev pub ThirdAbove : Type 0
ThirdAbove = (xs : List ℕ) → 0 < length xs → length xs / 4 + 1 ≤ count_ge (quartiles xs).q3 xs

-- and so q3, taken once for each of N numbers but the 3N/4-1 before its place, weighs no more than all of them
abbrev pub ThirdHeavy : Type 0
ThirdHeavy = (xs : List ℕ) → 0 < length xs
    → length xs * (quartiles xs).q3 ≤ sum xs + (3 * length xs / 4 - 1) * (quartiles xs).q3
