-- The costs of codes, bytes, length codes, ratios and checksums.
-- Assumes nothing.
use mathlib.Core.Path.{◌≡◌, refl, ◌∙◌, ap, ap₂}
use mathlib.Core.Bool.{Bool, true, false, cond}
use mathlib.Core.List.{List}
use mathlib.Core.Logic.{◌⊎◌, inl, inr, ⊎_elim}
use Prim.Native.Nat.{ℕ, zero, suc, ◌+◌, ◌-◌, ◌*◌, ◌/◌, ◌%◌, ◌^◌, ◌≤◌, ◌<◌, min}
use native.Mathlib.Omega.{arith}
use lib.Dec.{leb}
use lib.ListN.{get_or}
use borrow.Author.Tests.{le-leb, lt-leb, leb-true, leb-false}
use Rattle.params.specs.Words.{apart}
use Rattle.compare.specs.Distance.{outermost, code_cost, code_at, body_cost, around, length_cost, ratio_cost}
use Rattle.compare.specs.Lanes.{byte_cost}

-- ---- the body

-- a pair of codes costs at most 6
pub code_most : (a b : ℕ) → code_cost (a % 4) (b % 4) ≤ 6
unfolding code_cost
code_most a b = go (outermost (a % 4) (b % 4))
  where
    go : (t : Bool) → cond t 6 (apart (a % 4) (b % 4)) ≤ 6
    go true = omega arith
    go false = omega arith

-- a pair of bytes costs at most 24
pub byte_most : (x y : ℕ) → byte_cost x y ≤ 24
unfolding byte_cost
byte_most x y =
    omega (arith, code_most x y, code_most (x / 4) (y / 4), code_most (x / 16) (y / 16), code_most (x / 64) (y / 64))

-- n pairs of codes cost at most 6 each
pub body_most : (n : ℕ) (xs ys : List ℕ) → body_cost n xs ys ≤ 6 * n
unfolding body_cost code_at
body_most zero xs ys = omega arith
body_most (suc k) xs ys =
    omega (arith, body_most k xs ys, code_most (get_or xs (k / 4) 0 / 4 ^ (k % 4)) (get_or ys (k / 4) 0 / 4 ^ (k % 4)))

-- the code at place k, where its byte and its place there are known
code_at_lem : (xs : List ℕ) (k m j : ℕ) → k / 4 ≡ m → k % 4 ≡ j → code_at xs k ≡ get_or xs m 0 / 4 ^ j % 4
unfolding code_at
code_at_lem xs k m j e f = rw (e, f)

-- a byte more costs its four pairs of codes more
pub byte_more : (m : ℕ) (xs ys : List ℕ)
    → body_cost (4 * suc m) xs ys ≡ body_cost (4 * m) xs ys + byte_cost (get_or xs m 0) (get_or ys m 0)
unfolding body_cost byte_cost
byte_more m xs ys =
    let k : ℕ = 4 * m in
    let e : 4 * suc m ≡ suc (suc (suc (suc k))) = omega arith in
    let c₀ : code_cost (code_at xs k) (code_at ys k) ≡ code_cost (x % 4) (y % 4) = ap₂ code_cost (first xs) (first ys) in
    let c₁ : code_cost (code_at xs (suc k)) (code_at ys (suc k)) ≡ code_cost (x / 4 % 4) (y / 4 % 4) =
    ap₂ code_cost (code_at_lem xs (suc k) m 1 (omega arith) (omega arith)) (code_at_lem ys (suc k) m 1 (omega arith) (omega arith)) in
    let c₂ : code_cost (code_at xs (suc (suc k))) (code_at ys (suc (suc k))) ≡ code_cost (x / 16 % 4) (y / 16 % 4) =
    ap₂ code_cost (code_at_lem xs (suc (suc k)) m 2 (omega arith) (omega arith)) (code_at_lem ys (suc (suc k)) m 2 (omega arith) (omega arith)) in
    let c₃ : code_cost (code_at xs (suc (suc (suc k)))) (code_at ys (suc (suc (suc k)))) ≡ code_cost (x / 64 % 4) (y / 64 % 4) =
    ap₂ code_cost (code_at_lem xs (suc (suc (suc k))) m 3 (omega arith) (omega arith))
    (code_at_lem ys (suc (suc (suc k))) m 3 (omega arith) (omega arith)) in
    rw e (omega (arith, c₀, c₁, c₂, c₃))
  where
    x : ℕ
    x = get_or xs m 0

    y : ℕ
    y = get_or ys m 0

    whole : (n : ℕ) → n / 1 ≡ n
    whole n = omega arith

    first : (zs : List ℕ) → code_at zs (4 * m) ≡ get_or zs m 0 % 4
    first zs = code_at_lem zs (4 * m) m 0 (omega arith) (omega arith) ∙ ap (λ (n : ℕ). n % 4) (whole (get_or zs m 0))

-- ---- the length code and a ratio: what the code computes, near and far

-- the shorter way around, of which one is the difference modulo n
abbrev shorter : ℕ → ℕ → ℕ
shorter n d = min d (n - d)

-- from either end it is the same
shorter_back : (n d : ℕ) → d ≤ n → shorter n (n - d) ≡ shorter n d
shorter_back n d h = omega arith

-- a difference, or the rest of the circle
either_way : (n a b d : ℕ) → a < n → b < n → ((d ≡ a - b) × (b ≤ a)) ⊎ ((d ≡ n - (b - a)) × (a < b)) → shorter n d ≡ around n a b
either_way n a b d h k = ⊎_elim ahead behind
  where
    ahead : (d ≡ a - b) × (b ≤ a) → shorter n d ≡ around n a b
    ahead p =
        let l = p.1 in
        let e : a - b ≡ apart a b = omega arith in
        ap (shorter n) (p.0 ∙ e)

    behind : (d ≡ n - (b - a)) × (a < b) → shorter n d ≡ around n a b
    behind p =
        let l = p.1 in
        let e : b - a ≡ apart a b = omega arith in
        ap (shorter n) p.0 ∙ shorter_back n (b - a) (omega arith) ∙ ap (shorter n) e

around_256 : (a b : ℕ) → a < 256 → b < 256 → shorter 256 ((256 + a - b) % 256) ≡ around 256 a b
around_256 a b h k = either_way 256 a b ((256 + a - b) % 256) h k (go (leb b a) refl)
  where
    go : (t : Bool) → leb b a ≡ t → (((256 + a - b) % 256 ≡ a - b) × (b ≤ a)) ⊎ (((256 + a - b) % 256 ≡ 256 - (b - a)) × (a < b))
    go true e = let l = leb-true b a e in inl (omega arith, l)
    go false e = let l = leb-false b a e in inr (omega arith, l)

around_16 : (a b : ℕ) → a < 16 → b < 16 → shorter 16 ((16 + a - b) % 16) ≡ around 16 a b
around_16 a b h k = either_way 16 a b ((16 + a - b) % 16) h k (go (leb b a) refl)
  where
    go : (t : Bool) → leb b a ≡ t → (((16 + a - b) % 16 ≡ a - b) × (b ≤ a)) ⊎ (((16 + a - b) % 16 ≡ 16 - (b - a)) × (a < b))
    go true e = let l = leb-true b a e in inl (omega arith, l)
    go false e = let l = leb-false b a e in inr (omega arith, l)

module _ (a b v w d : ℕ) (p : v ≡ a) (q : w ≡ b) where
  pub length_near : v < 256 → w < 256 → d ≡ min ((256 + v - w) % 256) (256 - (256 + v - w) % 256) → d ≤ 1 → d ≡ length_cost a b
  unfolding length_cost
  length_near h k r l = rw (← p, ← q, ← around_256 v w h k, ← r, le-leb d 1 l)

  pub length_far : v < 256 → w < 256 → d ≡ min ((256 + v - w) % 256) (256 - (256 + v - w) % 256) → 1 < d → 12 * d ≡ length_cost a b
  unfolding length_cost
  length_far h k r l = rw (← p, ← q, ← around_256 v w h k, ← r, lt-leb d 1 l)

  pub ratio_near : a < 16 → b < 16 → d ≡ min ((16 + v - w) % 16) (16 - (16 + v - w) % 16) → d ≤ 1 → d ≡ ratio_cost a b
  unfolding ratio_cost
  ratio_near h k r l = rw (← around_16 a b h k, ← p, ← q, ← r, le-leb d 1 l)

  pub ratio_far : a < 16 → b < 16 → d ≡ min ((16 + v - w) % 16) (16 - (16 + v - w) % 16) → 1 < d → 12 * (d - 1) ≡ ratio_cost a b
  unfolding ratio_cost
  ratio_far h k r l = rw (← around_16 a b h k, ← p, ← q, ← r, lt-leb d 1 l)
