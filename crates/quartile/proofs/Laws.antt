-- What the proofs of the functions cite: the invariant of each loop with its start, its turns and its end, and the answers.
-- Assumes nothing.
use Rattle.std.proofs.Common.{◌≡◌, ℕ, ◌+◌, ◌-◌, ◌/◌, ◌^◌, max, ◌≤◌, ◌<◌, cond, List, [], ◌∷◌, ◌++◌, leb, length, refl, ap, ◌∙◌, length-append, arith}
use Rattle.std.specs.List.{fold, sum_by}
use Rattle.std.proofs.lemmas.List.Recursion.{is_sum_by}
use Rattle.quartile.specs.Counts.{count, non_zero, count_le, largest}
use Rattle.quartile.specs.Quartile.{place}
use Rattle.quartile.proofs.Counts.{count_most, count_append, count_non_zero}
use Rattle.quartile.proofs.Order.{place_le, place_gt, place_largest}

-- Counting a block: each number at most v adds 1.
pub count_sum : (v : ℕ) (xs : List ℕ) → count_le v xs ≡ sum_by (λ x. cond (leb x v) 1 0) xs
unfolding count count_le
count_sum v = is_sum_by (count (λ x. leb x v)) (λ x. cond (leb x v) 1 0) refl (λ _ _. refl)

-- Counting block by block: of the numbers before the rest, n are at most v.
pub record Counted (v : ℕ) (xs rest : List ℕ) (n : ℕ) : Type 0 where
  pub few : n + length rest ≤ length xs
  pub whole : n + count_le v rest ≡ count_le v xs

-- a block more, of which m are at most v
pub counted_block : (v : ℕ) (xs rest block left : List ℕ) (n m : ℕ) → Counted v xs rest n → rest ≡ block ++ left
    → m ≡ count_le v block → Counted v xs left (n + m)
unfolding count_le
counted_block v xs rest block left n m c e q =
    let f = count_most (λ x. leb x v) block in
    let l = ap length e ∙ length-append block left in
    let w = ap (count (λ x. leb x v)) e ∙ count_append (λ x. leb x v) block left in
    record { few = omega (arith, c.few); whole = omega (arith, c.whole) }

-- no block more
pub counted_all : (v : ℕ) (xs rest : List ℕ) (n : ℕ) → Counted v xs rest n → length rest ≡ 0 → n ≡ count_le v xs
unfolding count_le
counted_all v xs rest n c e = omega (arith, c.whole, count_most (λ x. leb x v) rest)

-- The largest is what stays of all when each number in turn is compared with the larger one so far.
fold_max : (m : ℕ) (xs : List ℕ) → fold max m xs ≡ max m (largest xs)
unfolding largest
fold_max m [] = omega arith
fold_max m (x ∷ xs) = omega (arith, fold_max (max m x) xs)

pub fold_largest : (xs : List ℕ) → fold max 0 xs ≡ largest xs
fold_largest xs = omega (arith, fold_max 0 xs)

-- Bisection: the number at place k lies from low to high.
pub record Bracket (xs : List ℕ) (k low high : ℕ) : Type 0 where
  pub above : low ≤ place xs k
  pub below : place xs k ≤ high
  pub fits : high < 2 ^ 32

-- from 0 to the largest
pub bracket_start : (xs : List ℕ) (k high : ℕ) → k < length xs → high ≡ largest xs → high < 2 ^ 32 → Bracket xs k 0 high
bracket_start xs k high h e f = record { above = omega arith; below = omega (arith, place_largest xs k h); fits = f }

-- up to the middle, where more than k numbers are at or below it
pub bracket_low : (xs : List ℕ) (k low high r : ℕ) → k < length xs → Bracket xs k low high → low < high
    → r ≡ count_le (low + (high - low) / 2) xs → k < r → Bracket xs k low (low + (high - low) / 2)
bracket_low xs k low high r h b l c t =
    record { above = b.above; below = place_le xs k (low + (high - low) / 2) h (omega arith); fits = omega (arith, b.fits) }

-- from the middle plus one on, where at most k are
pub bracket_high : (xs : List ℕ) (k low high r : ℕ) → k < length xs → Bracket xs k low high
    → r ≡ count_le (low + (high - low) / 2) xs → r ≤ k → Bracket xs k (low + (high - low) / 2 + 1) high
bracket_high xs k low high r h b c t =
    record { above = omega (arith, place_gt xs k (low + (high - low) / 2) h (omega arith)); below = b.below; fits = b.fits }

-- and so from any number up to there
pub bracket_up : (xs : List ℕ) (k low high r m : ℕ) → k < length xs → Bracket xs k low high
    → r ≡ count_le (low + (high - low) / 2) xs → r ≤ k → m ≤ low + (high - low) / 2 + 1 → Bracket xs k m high
bracket_up xs k low high r m h b c t u =
    let from = bracket_high xs k low high r h b c t in
    record { above = omega (arith, from.above); below = from.below; fits = from.fits }

-- one number is left
pub bracket_end : (xs : List ℕ) (k low high : ℕ) → Bracket xs k low high → high ≤ low → low ≡ place xs k
bracket_end xs k low high b h = omega (arith, b.above, b.below)

-- What is counted is no more than all.
pub counted_few : (v : ℕ) (xs : List ℕ) (n : ℕ) → n ≡ count_le v xs → n ≤ length xs
unfolding count_le
counted_few v xs n e = rw e (count_most (λ x. leb x v) xs)

-- All but the numbers at most 0 are not 0.
pub zeros_rest : (xs : List ℕ) (z : ℕ) → z ≡ count_le 0 xs → length xs - z ≡ non_zero xs
zeros_rest xs z e = omega (arith, count_non_zero xs)

-- what the proof of `quartile::non_zero` cites
pub ruleset zeros = (counted_few, zeros_rest)
