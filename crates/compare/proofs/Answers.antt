-- The answers: when digests can be compared, and what the distance then is.
-- Assumes nothing.
use mathlib.Core.Path.{◌≡◌, refl, sym, ◌∙◌}
use mathlib.Core.Bool.{Bool, true, false, and-false}
use Prim.Native.Nat.{ℕ, ◌+◌}
use native.Mathlib.Omega.{arith}
use lib.Dec.{eqb}
use borrow.Author.Tests.{eq-eqb, ne_eqb, eqb-true, eqb-false}
use Rattle.std.specs.Prelude.{Ok, Err}
use Rattle.params.specs.declared.Variant.{Variant}
use Rattle.params.specs.declared.Refusal.{Refusal}
use Rattle.params.specs.declared.Refusal.TheVariants.{UnknownVariant, UnlikeDigests}
use Rattle.params.specs.Variants.{known, buckets}
use Rattle.params.proofs.Variants.{known_buckets}
use Rattle.hash.specs.declared.Digest.{Digest}
use Rattle.compare.specs.declared.Head.{Head}
use Rattle.compare.specs.Distance.{body_cost, cost_of, comparability, distance_of, head_of, head_cost}

-- ---- whether they can be compared

-- 6 for the first, and for the second
pub first_unknown : (v w : ℕ) → known v ≡ false → comparability v w ≡ Err UnknownVariant
unfolding comparability
first_unknown v w k = rw k

pub second_unknown : (v w : ℕ) → known w ≡ false → comparability v w ≡ Err UnknownVariant
unfolding comparability
second_unknown v w k = rw (k, and-false (known v))

-- 12
pub two_unlike : (v w : ℕ) → known v ≡ true → known w ≡ true → (v ≡ w → ⊥) → comparability v w ≡ Err UnlikeDigests
unfolding comparability
two_unlike v w k l n = rw (k, l, ne_eqb v w n)

-- what the check of `shared_variant` takes from here
pub ruleset refusals = (first_unknown, second_unknown, two_unlike, known_buckets)

-- where they can be
pub record Comparable (v w : ℕ) : Type 0 where
  pub first : known v ≡ true
  pub second : known w ≡ true
  pub one : v ≡ w

pub comparable_says : (v w : ℕ) → comparability v w ≡ Ok tt → Comparable v w
comparable_says v w e = go (known v) refl (known w) refl (eqb v w) refl
  where
    go : (p : Bool) → known v ≡ p → (q : Bool) → known w ≡ q → (r : Bool) → eqb v w ≡ r → Comparable v w
    go false k q l r s = let f = first_unknown v w k in cc
    go true k false l r s = let f = second_unknown v w l in cc
    go true k true l false s = let f = two_unlike v w k l (eqb-false v w s) in cc
    go true k true l true s = record { first = k; second = l; one = eqb-true v w s }

pub comparable_one : (v w : ℕ) → known v ≡ true → v ≡ w → comparability v w ≡ Ok tt
unfolding comparability
comparable_one v w k e = rw (← e, k, eq-eqb v v refl)

-- the two are of one variant
pub comparable_same : (v w : ℕ) (u : Variant) → v ≡ buckets u → w ≡ buckets u → comparability v w ≡ Ok tt
comparable_same v w u p q = comparable_one v w (rw p (known_buckets u)) (p ∙ sym q)

-- ---- the answers

module _ (a b : Digest) where
  -- 6 and 12
  pub distance_refused : (e : Refusal) → comparability a.variant b.variant ≡ Err e → distance_of a b ≡ Err e
  unfolding distance_of
  distance_refused e q = rw q

  -- the sum
  pub distance_sum : comparability a.variant b.variant ≡ Ok tt → distance_of a b ≡ Ok (cost_of a b)
  unfolding distance_of
  distance_sum q = rw q

  -- with the heads' cost and the bodies'
  pub distance_done : (u : Variant) (h t : ℕ) → a.variant ≡ buckets u → b.variant ≡ buckets u
      → h ≡ head_cost (head_of a) (head_of b) → t ≡ body_cost (buckets u) a.body b.body → Ok (t + h) ≡ distance_of a b
  unfolding cost_of
  distance_done u h t p q d c =
      let e : t ≡ body_cost a.variant a.body b.body = rw p c in
      let s : t + h ≡ cost_of a b = omega arith in
      rw s (sym (distance_sum (comparable_same a.variant b.variant u p q)))

  -- the same of heads that were taken from the digests
  pub distance_whole : (u : Variant) (f g : Head) (h t : ℕ) → a.variant ≡ buckets u → b.variant ≡ buckets u → f ≡ head_of a → g ≡ head_of b
      → h ≡ head_cost f g → t ≡ body_cost (buckets u) a.body b.body → Ok (t + h) ≡ distance_of a b
  distance_whole u f g h t p q m n d c = distance_done u h t p q (rw (m, n) at d) c
