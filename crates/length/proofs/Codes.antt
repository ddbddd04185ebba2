-- The code of a length: what the loop over the table finds, and what the definition says of every length.
-- Assumes nothing.
use mathlib.Core.Path.{◌≡◌, refl, ◌∙◌, ap}
use mathlib.Core.Bool.{Bool, true, false, cond}
use mathlib.Core.List.{List, [], ◌∷◌}
use Prim.Native.Nat.{ℕ, zero, suc, ◌+◌, ◌≤◌, ◌<◌}
use native.Mathlib.Nat.{le_of_suc-le-suc, not-suc-le-zero}
use native.Mathlib.Numerals.{add-one}
use native.Mathlib.Omega.{arith}
use native.Mathlib.Decide.{dec_lt}
use lib.Dec.{ltb}
use lib.ListN.{length, get_or, drop, drop_of_length-le}
use lib.Seq.{drop-cons}
use borrow.Author.Tests.{lt-ltb, le-ltb, ltb-true, ltb-false}
use Rattle.std.specs.Prelude.{Ok, Err}
use Rattle.params.specs.declared.Refusal.TheVariants.{NoLengthCode}
use Rattle.length.specs.Tops.{tops}
use Rattle.length.specs.Code.{first_from, coded}
use Rattle.length.specs.Theorems.{HasCode, NoCode, ZeroCode}
use Rattle.length.proofs.Tops.{tops_count, tops_rising}

-- ---- the loop

-- i numbers of the table are passed, each below n
pub record Passed (n : ℕ) (xs : List ℕ) (i : ℕ) : Type 0 where
  pub table : xs ≡ tops
  pub within : i ≤ 170
  pub rest : i + first_from n (drop i xs) ≡ first_from n xs

first_step : (n : ℕ) (xs : List ℕ) (i : ℕ) → i < length xs
    → first_from n (drop i xs) ≡ cond (ltb (get_or xs i 0) n) (suc (first_from n (drop (i + 1) xs))) 0
first_step n xs i h = rw (add-one, drop-cons xs i 0)

tops_length : (xs : List ℕ) → xs ≡ tops → length xs ≡ 170
tops_length xs e = ap length e ∙ tops_count

-- at the start none is passed
pub passed_none : (n : ℕ) (xs : List ℕ) → xs ≡ tops → Passed n xs 0
passed_none n xs e = record { table = e; within = omega arith; rest = omega arith }

-- a top below n is passed
pub passed_more : (n : ℕ) (xs : List ℕ) (i : ℕ) → Passed n xs i → i < 170 → get_or xs i 0 < n → Passed n xs (i + 1)
passed_more n xs i b h l =
    record {
      table = b.table;
      within = omega arith;
      rest = omega (
        arith,
        b.rest,
        rw (lt-ltb (get_or xs i 0) n l) at (first_step n xs i (omega (arith, tops_length xs b.table))),
      );
    }

-- a top not below n gives the code
pub passed_here : (n : ℕ) (xs : List ℕ) (i : ℕ) → Passed n xs i → i < 170 → n ≤ get_or xs i 0 → Ok i ≡ coded n
unfolding coded
passed_here n xs i b h l =
    let c : length xs ≡ 170 = tops_length xs b.table in
    let f : first_from n xs ≡ i = omega (arith, b.rest, rw (le-ltb (get_or xs i 0) n l) at (first_step n xs i (omega arith))) in
    rw (← b.table, f, lt-ltb i (length xs) (omega arith))

-- past the last top there is none
pub passed_all : (n : ℕ) (xs : List ℕ) (i : ℕ) → Passed n xs i → 170 ≤ i → Err NoLengthCode ≡ coded n
unfolding coded
passed_all n xs i b h =
    let c : length xs ≡ 170 = tops_length xs b.table in
    let z : first_from n (drop i xs) ≡ 0 = rw (drop_of_length-le xs {i = i} (omega arith)) in
    let f : first_from n xs ≡ length xs = omega (arith, b.rest, b.within) in
    rw (← b.table, f, le-ltb (length xs) (length xs) (omega arith))

-- what the proof of `length::length_code` cites
pub ruleset passing = (passed_none, passed_more, passed_here, passed_all)

-- ---- the definition

-- a top not below n at place k: the first such place is at most k
first_le : (n : ℕ) (xs : List ℕ) (k : ℕ) → k < length xs → n ≤ get_or xs k 0 → first_from n xs ≤ k
first_le n [] k h l = absurd (not-suc-le-zero h)
first_le n (x ∷ xs) zero h l = rw (le-ltb x n l) (omega arith)
first_le n (x ∷ xs) (suc k) h l = go (ltb x n) (first_le n xs k (le_of_suc-le-suc h) l)
  where
    go : (b : Bool) → first_from n xs ≤ k → cond b (suc (first_from n xs)) 0 ≤ suc k
    go true ih = omega arith
    go false ih = omega arith

-- each number before the first such place is below n
first_passes : (n : ℕ) (xs : List ℕ) (k : ℕ) → k < first_from n xs → get_or xs k 0 < n
first_passes n [] k h = absurd (not-suc-le-zero h)
first_passes n (x ∷ xs) k h = go (ltb x n) refl k h (λ j l. first_passes n xs j l)
  where
    go : (b : Bool) → ltb x n ≡ b → (k : ℕ) → k < cond b (suc (first_from n xs)) 0
        → ((j : ℕ) → j < first_from n xs → get_or xs j 0 < n) → get_or (x ∷ xs) k 0 < n
    go true e zero h ih = ltb-true x n e
    go true e (suc k) h ih = ih k (le_of_suc-le-suc h)
    go false e k h ih = absurd (not-suc-le-zero h)

-- the first such place, where there is one, holds a number not below n
first_reaches : (n : ℕ) (xs : List ℕ) → first_from n xs < length xs → n ≤ get_or xs (first_from n xs) 0
first_reaches n [] h = absurd (not-suc-le-zero h)
first_reaches n (x ∷ xs) h = go (ltb x n) refl h (λ l. first_reaches n xs l)
  where
    go : (b : Bool) → ltb x n ≡ b → cond b (suc (first_from n xs)) 0 < suc (length xs)
        → (first_from n xs < length xs → n ≤ get_or xs (first_from n xs) 0) → n ≤ get_or (x ∷ xs) (cond b (suc (first_from n xs)) 0) 0
    go true e h ih = ih (le_of_suc-le-suc h)
    go false e h ih = ltb-false x n e

-- the top of the last code
pub last_top : get_or tops 169 0 ≡ 4_224_281_216
unfolding tops
last_top = refl

-- a length up to the last top has a code
found : (n : ℕ) → n ≤ 4_224_281_216 → first_from n tops < length tops
found n h = omega (arith, tops_count, first_le n tops 169 (omega (arith, tops_count)) (omega (arith, last_top)))

-- up to the last top the answer is a code: its top is not below n, and each earlier top is
pub has_code : HasCode
unfolding coded
has_code n h = (
  first_from n tops,
  record {
    given = rw (lt-ltb (first_from n tops) (length tops) (found n h));
    small = omega (arith, found n h, tops_count);
    reaches = first_reaches n tops (found n h);
    first = λ k l. first_passes n tops k l;
  },
)

-- no top is above the last
top_le : (i : ℕ) → i < 170 → Dec (i < 169) → get_or tops i 0 ≤ 4_224_281_216
top_le i h (yes l) = omega (arith, tops_rising i 169 l (omega arith), last_top)
top_le i h (no l) =
    let e : i ≡ 169 = omega arith in
    rw e (omega (arith, last_top))

-- beyond the last top, the search decided
none_by : (n : ℕ) → 4_224_281_216 < n → Dec (first_from n tops < length tops) → coded n ≡ Err NoLengthCode
unfolding coded
none_by n h (yes l) =
    let t = top_le (first_from n tops) (omega (arith, tops_count)) (dec_lt _ _) in
    absurd (omega (arith, first_reaches n tops l))
none_by n h (no l) = rw (le-ltb (first_from n tops) (length tops) (omega arith))

-- beyond the last top there is no code
pub no_code : NoCode
no_code n h = none_by n h (dec_lt _ _)

-- length 0 has code 0
pub zero_code : ZeroCode
unfolding coded tops
zero_code = refl
