-- The three marks: what the test says of a length field and a tail length.
-- Assumes nothing.
use mathlib.Core.Path.{◌≡◌, refl}
use mathlib.Core.Bool.{Bool, true, false, not, ◌&&◌, ◌||◌, true≢false, and-true, and-false}
use Prim.Native.Nat.{ℕ, ◌≤◌, ◌<◌}
use native.Mathlib.Omega.{arith}
use native.Mathlib.Decide.{dec_lt}
use lib.Dec.{ltb, eqb}
use borrow.Author.Tests.{lt-ltb, le-ltb, eq-eqb, ltb-false, eqb-true, not-false}
use Rattle.generate.specs.Feed.{stop}
use Rattle.generate.specs.Answer.{marked}

-- a length field l and a tail length n with none of the three marks
pub record Fine (l n : ℕ) : Type 0 where
  pub few : n ≤ 4
  pub stops : l ≤ stop
  pub empty : n < 4 → l ≡ 0

-- a tail length below 4, or one of 4
fine_by : (l n : ℕ) → Fine l n → Dec (n < 4) → marked l n ≡ false
unfolding marked
fine_by l n k (yes p) = rw (le-ltb 4 n k.few, le-ltb stop l k.stops, eq-eqb l 0 (k.empty p))
fine_by l n k (no p) =
    rw (le-ltb 4 n k.few, le-ltb stop l k.stops, le-ltb n 4 (omega arith), and-false (not (eqb l 0)))

-- the test finds none
pub fine_unmarked : (l n : ℕ) → Fine l n → marked l n ≡ false
fine_unmarked l n k = fine_by l n k (dec_lt n 4)

-- neither of two tests passes where one of them would do
or_left : (a b : Bool) → a || b ≡ false → a ≡ false
or_left true b e = e
or_left false b e = refl

or_right : (a b : Bool) → a || b ≡ false → b ≡ false
or_right true b e = absurd (true≢false e)
or_right false b e = e

-- and where the test finds none there is none
pub unmarked_fine : (l n : ℕ) → marked l n ≡ false → Fine l n
unfolding marked
unmarked_fine l n e =
    let ab = or_left (ltb 4 n || ltb stop l) (not (eqb l 0) && ltb n 4) e in
    let c = or_right (ltb 4 n || ltb stop l) (not (eqb l 0) && ltb n 4) e in
    record {
      few = ltb-false 4 n (or_left (ltb 4 n) (ltb stop l) ab);
      stops = ltb-false stop l (or_right (ltb 4 n) (ltb stop l) ab);
      empty = λ h. eqb-true l 0 (not-false (eqb l 0) (rw (lt-ltb n 4 h, and-true (not (eqb l 0))) at c));
    }
