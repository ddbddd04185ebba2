-- Laws of rising order. It keeps the numbers and it rises, and so the number at place k is at most v exactly where more than k of the
-- numbers are.
-- Assumes nothing.
use mathlib.Core.Path.{◌≡◌, refl, sym, ◌∙◌, ap}
use mathlib.Core.Bool.{Bool, true, false, cond}
use mathlib.Core.List.{List, [], ◌∷◌}
use Prim.Native.Nat.{ℕ, zero, suc, ◌+◌, ◌≤◌, ◌<◌}
use native.Mathlib.Nat.{le_of_suc-le-suc, not-suc-le-zero}
use native.Mathlib.Omega.{arith}
use native.Mathlib.Decide.{dec_le, dec_lt}
use lib.Dec.{leb}
use lib.ListN.{length, get_or, get_or-eq_default}
use borrow.Author.Tests.{le-leb, lt-leb, leb-true, leb-false}
use Rattle.quartile.specs.Counts.{count, count_le, largest}
use Rattle.quartile.specs.Quartile.{insert, rising, place}
use Rattle.quartile.specs.Theorems.{From, Rising, RisingRises, CountRising, PlaceCount, PlaceLe, PlaceFew, PlaceGt, PlaceRises}
use Rattle.quartile.proofs.Counts.{one_most, count_all, count_largest}

-- a number counts alike wherever it is put into a list
count_insert : (f : ℕ → Bool) (x : ℕ) (ys : List ℕ) → count f (insert x ys) ≡ cond (f x) 1 0 + count f ys
unfolding insert count
count_insert f x [] = refl
count_insert f x (y ∷ ys) = go (leb x y) (count_insert f x ys)
  where
    go : (b : Bool) → count f (insert x ys) ≡ cond (f x) 1 0 + count f ys
        → count f (cond b (x ∷ y ∷ ys) (y ∷ insert x ys)) ≡ cond (f x) 1 0 + (cond (f y) 1 0 + count f ys)
    go true ih = refl
    go false ih = omega arith

-- rising order keeps the numbers: as many of them pass any test, and so each stands there as often as in the list
pub count_rising : CountRising
unfolding rising count
count_rising f [] = refl
count_rising f (x ∷ xs) = count_insert f x (rising xs) ∙ ap (λ (n : ℕ). cond (f x) 1 0 + n) (count_rising f xs)

-- and it keeps how many they are
pub length-rising : (xs : List ℕ) → length (rising xs) ≡ length xs
length-rising xs = sym (all (rising xs)) ∙ count_rising (λ x. true) xs ∙ all xs
  where
    all : (ys : List ℕ) → count (λ x. true) ys ≡ length ys
    all ys = count_all (λ x. true) (λ x. refl) ys

-- where no number is below x, none is below a number that is not above x
from_less : (a x : ℕ) (ys : List ℕ) → a ≤ x → From x ys → From a ys
from_less a x [] h f = tt
from_less a x (y ∷ ys) h f = (omega (arith, f.0), from_less a x ys h f.1)

-- where no number is below a, none is after one more that is not below a is put in
from_insert : (a x : ℕ) (ys : List ℕ) → a ≤ x → From a ys → From a (insert x ys)
unfolding insert
from_insert a x [] h f = (h, tt)
from_insert a x (y ∷ ys) h f = go (leb x y) (from_insert a x ys h f.1)
  where
    go : (b : Bool) → From a (insert x ys) → From a (cond b (x ∷ y ∷ ys) (y ∷ insert x ys))
    go true ih = (h, f)
    go false ih = (f.0, ih)

-- a number put into a list that rises leaves it rising
rising_insert : (x : ℕ) (ys : List ℕ) → Rising ys → Rising (insert x ys)
unfolding insert
rising_insert x [] r = (tt, tt)
rising_insert x (y ∷ ys) r = go (leb x y) refl (rising_insert x ys r.1)
  where
    go : (b : Bool) → leb x y ≡ b → Rising (insert x ys) → Rising (cond b (x ∷ y ∷ ys) (y ∷ insert x ys))
    go true e ih = let h : x ≤ y = leb-true x y e in ((h, from_less x y ys h r.0), r)
    go false e ih = let h : y < x = leb-false x y e in (from_insert y x ys (omega arith) r.0, ih)

-- rising order rises
pub rising_rises : RisingRises
unfolding rising
rising_rises [] = tt
rising_rises (x ∷ xs) = rising_insert x (rising xs) (rising_rises xs)

-- where no number is below x, and v is, no number is at most v
count_none : (v x : ℕ) (ys : List ℕ) → v < x → From x ys → count_le v ys ≡ 0
unfolding count count_le
count_none v x [] h f = refl
count_none v x (y ∷ ys) h f =
    let l : v < y = omega (arith, f.0) in
    let ih : count_le v ys ≡ 0 = count_none v x ys h f.1 in
    rw (lt-leb y v l) (omega arith)

-- where no number is below x, the number at place k is not
from_at : (x : ℕ) (ys : List ℕ) (k : ℕ) → From x ys → k < length ys → x ≤ get_or ys k 0
from_at x [] k f h = absurd (not-suc-le-zero h)
from_at x (y ∷ ys) zero f h = f.0
from_at x (y ∷ ys) (suc k) f h = from_at x ys k f.1 (le_of_suc-le-suc h)

-- in a list that rises, where the number at place k is above v, at most the k numbers before it are not
over : (v : ℕ) (ys : List ℕ) (k : ℕ) → Rising ys → k < length ys → v < get_or ys k 0 → count_le v ys ≤ k
unfolding count count_le
over v [] k r h l = absurd (not-suc-le-zero h)
over v (y ∷ ys) zero r h l =
    let n : count_le v ys ≡ 0 = count_none v y ys l r.0 in
    rw (lt-leb y v l, n) (omega arith)
over v (y ∷ ys) (suc k) r h l = omega (arith, one_most (leb y v), over v ys k r.1 (le_of_suc-le-suc h) l)

-- and where it is at most v, so are it and the k numbers before it
under : (v : ℕ) (ys : List ℕ) (k : ℕ) → Rising ys → k < length ys → get_or ys k 0 ≤ v → k < count_le v ys
unfolding count count_le
under v [] k r h l = absurd (not-suc-le-zero h)
under v (y ∷ ys) zero r h l = rw (le-leb y v l) (omega arith)
under v (y ∷ ys) (suc k) r h l =
    let h' : k < length ys = le_of_suc-le-suc h in
    let m : y ≤ v = omega (arith, from_at y ys k r.0 h') in
    let ih : k < count_le v ys = under v ys k r.1 h' l in
    rw (le-leb y v m) (omega arith)

-- where the number at place k is at most v, more than k of the numbers are
pub place_count : PlaceCount
unfolding place count_le
place_count xs k v h l = rw count_rising at (under v (rising xs) k (rising_rises xs) (rw length-rising h) l)

-- where it is above v, at most k of them are
pub place_few : PlaceFew
unfolding place count_le
place_few xs k v h l = rw count_rising at (over v (rising xs) k (rising_rises xs) (rw length-rising h) l)

-- where more than k of the numbers are at most v, the number at place k is
pub place_le : PlaceLe
place_le xs k v h n = go (dec_le (place xs k) v)
  where
    go : Dec (place xs k ≤ v) → place xs k ≤ v
    go (yes l) = l
    go (no l) = absurd (omega (arith, place_few xs k v h (omega arith)))

-- where at most k of them are, it is above v
pub place_gt : PlaceGt
place_gt xs k v h n = go (dec_lt v (place xs k))
  where
    go : Dec (v < place xs k) → v < place xs k
    go (yes l) = l
    go (no l) = absurd (omega (arith, place_count xs k v h (omega arith)))

-- past the last place stands 0
pub place_past : (xs : List ℕ) (k : ℕ) → length xs ≤ k → place xs k ≡ 0
unfolding place
place_past xs k h = get_or-eq_default (rising xs) 0 (rw length-rising h)

-- later places hold no lesser numbers
pub place_rises : PlaceRises
place_rises xs j k l h = place_le xs j (place xs k) (omega arith) (omega (arith, place_count xs k (place xs k) h (omega arith)))

-- no place holds more than the largest number
pub place_largest : (xs : List ℕ) (k : ℕ) → k < length xs → place xs k ≤ largest xs
place_largest xs k h = place_le xs k (largest xs) h (rw (count_largest (largest xs) xs (omega arith)) h)
