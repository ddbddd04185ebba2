-- What holds of the counters after any bytes: their number and size, their sum, and which of them stay 0.
-- Assumes nothing.
use mathlib.Core.Path.{◌≡◌, refl}
use mathlib.Core.List.{List, [], ◌∷◌}
use Prim.Native.Nat.{ℕ, zero, suc, ◌+◌, ◌*◌, ◌/◌, ◌%◌, ◌^◌, ◌≤◌, ◌<◌}
use native.Mathlib.Nat.{le_of_suc-le-suc, not-suc-le-zero}
use native.Mathlib.Omega.{arith}
use native.Mathlib.Decide.{dec_lt, ℕ_discrete}
use lib.ListN.{length, get_or, set, replicate, length-set, length-replicate, get_or-replicate, get_or-eq_default}
use lib.Seq.{get_or-set_same, get_or-set_other}
use Rattle.params.specs.Words.{sum}
use Rattle.pearson.specs.Mapping.{bucket}
use Rattle.pearson.proofs.Values.{bucket_lt, bucket_short}
use Rattle.counting.specs.Count.{bump_by, bump, counted}
use Rattle.generate.specs.declared.State.{State}
use Rattle.generate.specs.Feed.{fresh, filled, slid, step, feed}
use Rattle.generate.proofs.Step.{by_step, feed_keeps}

-- a store changes the sum by what it changes at its place
sum-set : (cs : List ℕ) (i y : ℕ) → i < length cs → sum (set cs i y) + get_or cs i 0 ≡ sum cs + y
unfolding sum
sum-set [] i y h = absurd (not-suc-le-zero h)
sum-set (x ∷ cs) zero y h = omega arith
sum-set (x ∷ cs) (suc i) y h = omega (arith, sum-set cs i y (le_of_suc-le-suc h))

-- a counter is at most the sum
at_most_sum : (cs : List ℕ) (i : ℕ) → get_or cs i 0 ≤ sum cs
unfolding sum
at_most_sum [] i = omega arith
at_most_sum (x ∷ cs) zero = omega arith
at_most_sum (x ∷ cs) (suc i) = omega (arith, at_most_sum cs i)

-- one more at a counter is one more in the sum, less 2^32 where the counter rolls over
bump_sum : (cs : List ℕ) (i : ℕ) → i < length cs → sum (bump cs i) + 2 ^ 32 * ((get_or cs i 0 + 1) / 2 ^ 32) ≡ sum cs + 1
unfolding bump_by
bump_sum cs i h = omega (arith, sum-set cs i ((get_or cs i 0 + 1) % 2 ^ 32) h)

-- the counters cs of a variant v, to which one was added n times
pub record Tallied (v : ℕ) (cs : List ℕ) (n : ℕ) : Type 0 where
  pub wide : length cs ≡ 256
  pub small : (i : ℕ) → get_or cs i 0 < 2 ^ 32
  pub rolled : sum cs % 2 ^ 32 ≡ n % 2 ^ 32
  pub exact : n < 2 ^ 32 → sum cs ≡ n
  pub unused : v ≡ 48 → (i : ℕ) → 49 ≤ i → get_or cs i 0 ≡ 0

-- a bumped counter is below 2^32, and so is every other
small_by : (cs : List ℕ) (i j : ℕ) → i < length cs → get_or cs j 0 < 2 ^ 32 → Dec (j ≡ i) → get_or (bump cs i) j 0 < 2 ^ 32
unfolding bump_by
small_by cs i j h k (yes e) = rw (e, get_or-set_same cs i ((get_or cs i 0 + 1) % 2 ^ 32) 0 h) (omega arith)
small_by cs i j h k (no n) = rw (get_or-set_other cs i j ((get_or cs i 0 + 1) % 2 ^ 32) 0 n) k

-- one more at a counter that the variant counts adds one to the tally
bump_tallied : (v : ℕ) {cs : List ℕ} {n : ℕ} (i : ℕ) → i < 256 → (v ≡ 48 → i < 49) → Tallied v cs n
    → Tallied v (bump cs i) (n + 1)
unfolding bump_by
bump_tallied v {cs} {n} i h u t =
    let b = bump_sum cs i (omega (arith, t.wide)) in
    record {
      wide = simp length-set t.wide;
      small = λ j. small_by cs i j (omega (arith, t.wide)) (t.small j) (ℕ_discrete j i);
      rolled = omega (arith, t.rolled);
      exact = λ l. omega (arith, t.exact (omega arith), at_most_sum cs i);
      unused = λ e j k. let d : i < 49 = u e in
          rw (get_or-set_other cs i j ((get_or cs i 0 + 1) % 2 ^ 32) 0 (λ q. absurd (omega arith))) (t.unused e j k);
    }

-- so does one more at a mapping's value
hit_tallied : (v a b c d : ℕ) {cs : List ℕ} {n : ℕ} → Tallied v cs n → Tallied v (bump cs (bucket v a b c d)) (n + 1)
hit_tallied v a b c d t = bump_tallied v (bucket v a b c d) (bucket_lt v a b c d) (λ e. rw e (bucket_short a b c d)) t

-- a counted byte adds six
counted_tallied : (v b4 b3 b2 b1 b0 n : ℕ) {cs : List ℕ} → Tallied v cs (6 * n)
    → Tallied v (counted v cs b4 b3 b2 b1 b0) (6 * (n + 1))
unfolding counted
counted_tallied v b4 b3 b2 b1 b0 n t =
    let e : 6 * n + 1 + 1 + 1 + 1 + 1 + 1 ≡ 6 * (n + 1) = omega arith in
    rw (← e)
    (hit_tallied v 13 b4 b1 b0
    (hit_tallied v 11 b4 b3 b0
    (hit_tallied v 7 b4 b2 b0
    (hit_tallied v 5 b4 b2 b1
    (hit_tallied v 3 b4 b3 b1
    (hit_tallied v 2 b4 b3 b2 t))))))

-- a state whose counters were counted six times for each byte of its length field
abbrev pub Sixfold : State → Type 0
Sixfold s = Tallied s.variant s.counters (6 * s.length)

-- a byte keeps that
step_sixfold : (s : State) (b : ℕ) → Sixfold s → Sixfold (step s b)
unfolding filled slid
step_sixfold s b t = by_step s b Sixfold (λ h. t) (λ h l. counted_tallied s.variant b _ _ _ _ s.length t) (λ h l. t)

-- so do any bytes
pub feed_sixfold : (bs : List ℕ) (s : State) → Sixfold s → Sixfold (feed bs s)
feed_sixfold = feed_keeps Sixfold step_sixfold

-- a list of zeros has 0 at every place
zeros : (n i : ℕ) → Dec (i < n) → ◌≡◌ {A = ℕ} (get_or (replicate n 0) i 0) 0
zeros n i (yes h) = get_or-replicate n i 0 0 h
zeros n i (no h) = get_or-eq_default (replicate n 0) 0 {n = i} (simp length-replicate (omega arith))

-- a fresh state has it
pub fresh_sixfold : (v : ℕ) → Sixfold (fresh v)
unfolding fresh sum
fresh_sixfold v =
    record {
      wide = refl;
      small = λ i. rw (zeros 256 i (dec_lt i 256)) (omega arith);
      rolled = refl;
      exact = λ h. refl;
      unused = λ e i h. zeros 256 i (dec_lt i 256);
    }
