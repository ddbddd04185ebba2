-- What holds of each of the three variants holds of every known one.
-- Assumes nothing.
use mathlib.Core.Path.{◌≡◌, refl, sym, subst}
use mathlib.Core.Bool.{Bool, true, false, true≢false}
use Prim.Native.Nat.{ℕ, ◌≤◌}
use native.Mathlib.Omega.{arith}
use lib.Dec.{eqb}
use borrow.Author.Tests.{eqb-true}
use Rattle.params.specs.declared.Variant.{Variant}
use Rattle.params.specs.declared.Variant.TheVariants.{Short, Normal, Long}
use Rattle.params.specs.Variants.{known, buckets}

-- a property of 48, 128 and 256 is one of every known variant
pub by_variant : (P : ℕ → Type 0) → P 48 → P 128 → P 256 → (v : ℕ) → known v ≡ true → P v
unfolding known
by_variant P a b c v e = go (eqb v 48) refl (eqb v 128) refl (eqb v 256) refl
  where
    go : (x : Bool) → eqb v 48 ≡ x → (y : Bool) → eqb v 128 ≡ y → (z : Bool) → eqb v 256 ≡ z → P v
    go true p y q z r = subst P (sym (eqb-true v 48 p)) a
    go false p true q z r = subst P (sym (eqb-true v 128 q)) b
    go false p false q true r = subst P (sym (eqb-true v 256 r)) c
    go false p false q false r = absurd (true≢false (sym (rw (p, q, r) at e)))

-- a variant has at least 48 buckets, and at most 256
pub known_least : (v : ℕ) → known v ≡ true → 48 ≤ v
known_least = by_variant (λ v. 48 ≤ v) (omega arith) (omega arith) (omega arith)

pub known_most : (v : ℕ) → known v ≡ true → v ≤ 256
known_most = by_variant (λ v. v ≤ 256) (omega arith) (omega arith) (omega arith)

-- each of the three is known
pub known_buckets : (v : Variant) → known (buckets v) ≡ true
unfolding known
known_buckets Short = refl
known_buckets Normal = refl
known_buckets Long = refl
