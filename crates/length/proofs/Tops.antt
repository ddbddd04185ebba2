-- The table of top lengths rises strictly: one test that antt computes over the whole table, and what it says of any two codes.
-- Assumes nothing.
use mathlib.Core.Path.{◌≡◌, refl}
use mathlib.Core.Bool.{Bool, true, ◌&&◌}
use mathlib.Core.List.{List, [], ◌∷◌}
use Prim.Native.Nat.{ℕ, zero, suc, ◌+◌, ◌-◌, ◌<◌}
use native.Mathlib.Nat.{le_of_suc-le-suc, not-suc-le-zero}
use native.Mathlib.Numerals.{add-one}
use native.Mathlib.Omega.{arith}
use lib.Dec.{T, ltb, ltb→lt}
use lib.ListN.{length, get_or}
use Rattle.params.proofs.Every.{and_left, and_right}
use Rattle.length.specs.Tops.{tops}
use Rattle.length.specs.Theorems.{TopsRising}

-- there are 170 codes
pub tops_count : length tops ≡ 170
unfolding tops
tops_count = refl

-- each number of a list is below the next one
abbrev rises : List ℕ → Bool
rises [] = true
rises (x ∷ []) = true
rises (x ∷ y ∷ ys) = ltb x y && rises (y ∷ ys)

tops_rise : T (rises tops)
unfolding tops
tops_rise = tt

next_above : (xs : List ℕ) → T (rises xs) → (i : ℕ) → suc i < length xs → get_or xs i 0 < get_or xs (suc i) 0
next_above [] t i h = absurd (not-suc-le-zero h)
next_above (x ∷ []) t i h = absurd (not-suc-le-zero (le_of_suc-le-suc h))
next_above (x ∷ y ∷ ys) t zero h = ltb→lt x y (and_left (ltb x y) (rises (y ∷ ys)) t)
next_above (x ∷ y ∷ ys) t (suc i) h = next_above (y ∷ ys) (and_right (ltb x y) (rises (y ∷ ys)) t) i (le_of_suc-le-suc h)

above : (xs : List ℕ) → T (rises xs) → (i d : ℕ) → i + suc d < length xs → get_or xs i 0 < get_or xs (i + suc d) 0
above xs t i zero h =
    let e : i + 1 ≡ suc i = add-one i in
    rw e (next_above xs t i (omega arith))
above xs t i (suc d) h =
    let e : i + suc (suc d) ≡ suc (i + suc d) = omega arith in
    let g : get_or xs i 0 < get_or xs (i + suc d) 0 = above xs t i d (omega arith) in
    let k : get_or xs (i + suc d) 0 < get_or xs (suc (i + suc d)) 0 = next_above xs t (i + suc d) (omega arith) in
    rw e (omega arith)

-- a later code has a greater top
pub tops_rising : TopsRising
tops_rising i j l h =
    let e : i + suc (j - suc i) ≡ j = omega arith in
    rw e at (above tops tops_rise i (j - suc i) (omega (arith, tops_count)))
