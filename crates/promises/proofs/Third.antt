-- The counting: the third quartile of an input within the bound is at most 167,772, and of one within the farther bound at most 262,146. At
-- least a quarter of the used counters and one more are no less than it, and all counters together are six times the length field, which is
-- four less than the input.
-- Assumes nothing.
use mathlib.Core.Path.{◌≡◌}
use mathlib.Core.Bool.{Bool, true, false, cond}
use mathlib.Core.List.{List, [], ◌∷◌}
use Prim.Native.Nat.{ℕ, zero, suc, ◌+◌, ◌-◌, ◌*◌, ◌/◌, ◌^◌, ◌≤◌, ◌<◌}
use native.Mathlib.Omega.{arith}
use lib.Dec.{eqb}
use lib.ListN.{length, take, length-take}
use Rattle.params.specs.Words.{sum}
use Rattle.params.specs.Variants.{known}
use Rattle.params.proofs.Variants.{by_variant}
use Rattle.quartile.specs.Quartile.{quartiles}
use Rattle.quartile.proofs.Three.{third_heavy}
use Rattle.qratios.specs.Demands.{light_third, agreeing_third}
use Rattle.generate.specs.Feed.{fresh, feed}
use Rattle.generate.proofs.Reached.{six_exact, counters_256, four_less}
use Rattle.promises.specs.Demands.{bound, far_bound, Counted, BoundCounted, FarBoundCounted}

-- the used counters weigh no more than all
sum-take : (n : ℕ) (xs : List ℕ) → sum (take n xs) ≤ sum xs
unfolding sum
sum-take zero xs = omega arith
sum-take (suc n) [] = omega arith
sum-take (suc n) (x ∷ xs) = omega (arith, sum-take n xs)

-- a quarter of v counters and one more are no less than the third quartile: so many times it is at most the sum
weighed : (v : ℕ) (cs : List ℕ) → 48 ≤ v → v ≤ 256 → length cs ≡ 256
    → v * (quartiles (take v cs)).q3 ≤ sum cs + (3 * v / 4 - 1) * (quartiles (take v cs)).q3
weighed v cs l m wide =
    let q3 = (quartiles (take v cs)).q3 in
    let e : length (take v cs) ≡ v = simp length-take (omega (arith, wide)) in
    let w : v * q3 ≤ sum (take v cs) + (3 * v / 4 - 1) * q3 = rw e at (third_heavy (take v cs) (omega arith)) in
    omega (arith, sum-take v cs)

-- the counting shows t within b where so many counters of one more than t weigh more than the bytes give
counted : (b : ℕ → ℕ) (t : ℕ) → 6 * (b 48 - 4) < 13 * suc t → 6 * (b 128 - 4) < 33 * suc t → 6 * (b 256 - 4) < 65 * suc t → Counted b t
counted b t short normal long v n cs e wide sums =
    by_variant (λ u. n ≤ b u → (quartiles (take u cs)).q3 ≤ t)
    (λ h. omega (arith, weighed 48 cs (omega arith) (omega arith) wide))
    (λ h. omega (arith, weighed 128 cs (omega arith) (omega arith) wide))
    (λ h. omega (arith, weighed 256 cs (omega arith) (omega arith) wide)) v e

pub bound_counted : BoundCounted
unfolding bound
bound_counted = counted bound light_third (omega arith) (omega arith) (omega arith)

pub far_bound_counted : FarBoundCounted
unfolding far_bound
far_bound_counted = counted far_bound agreeing_third (omega arith) (omega arith) (omega arith)

-- the bound lies within the farther one
pub bound_within : (v : ℕ) → bound v ≤ far_bound v
unfolding bound far_bound
bound_within v = go (eqb v 48) (eqb v 128) (omega arith) (omega arith) (omega arith)
  where
    go : (a b : Bool) {x y z x' y' z' : ℕ} → x ≤ x' → y ≤ y' → z ≤ z' → cond a x (cond b y z) ≤ cond a x' (cond b y' z')
    go true b h k l = h
    go false true h k l = k
    go false false h k l = l

-- up to the farther bound six times the length is below 2 ^ 32
far_bound_most : (v : ℕ) → known v ≡ true → 6 * far_bound v < 2 ^ 32
unfolding far_bound
far_bound_most = by_variant (λ v. 6 * far_bound v < 2 ^ 32) (omega arith) (omega arith) (omega arith)

-- so the third quartile of an input within it is at most 262,146
pub third_agreeing : (v : ℕ) (bytes : List ℕ) → known v ≡ true → length bytes ≤ far_bound v
    → (quartiles (take v (feed bytes (fresh v)).counters)).q3 ≤ agreeing_third
third_agreeing v bytes e h =
    let f = four_less v bytes in
    let x = six_exact v bytes (omega (arith, far_bound_most v e)) in
    far_bound_counted v (length bytes) (feed bytes (fresh v)).counters e (counters_256 v bytes) (omega arith) h
