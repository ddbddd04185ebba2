-- What holds of the distance: the proofs of the statements of specs/Theorems.antt.
-- Assumes nothing.
use mathlib.Core.Path.{◌≡◌, refl, sym, ◌∙◌, ap, ap₂}
use mathlib.Core.Bool.{Bool, true, false, cond, ◌&&◌, and_comm, or_comm, and-false}
use mathlib.Core.List.{List}
use Prim.Native.Nat.{ℕ, zero, suc, ◌+◌, ◌-◌, ◌*◌, ◌/◌, ◌%◌, ◌≤◌, ◌<◌, min}
use native.Mathlib.Omega.{arith}
use lib.Dec.{leb, eqb, eqb→eq}
use lib.ListN.{get_or, replicate}
use borrow.Author.Tests.{leb-false, eq-eqb, ne_eqb, eqb-true, eqb-false}
use Rattle.params.specs.Variants.{known}
use Rattle.params.specs.Words.{apart}
use Rattle.std.specs.Prelude.{Result, Ok, Err}
use Rattle.params.specs.declared.Refusal.{Refusal}
use Rattle.params.proofs.Every.{below}
use Rattle.params.proofs.Variants.{by_variant, known_most}
use Rattle.body.specs.Body.{bytes_of}
use Rattle.hash.specs.declared.Digest.{Digest}
use Rattle.hash.proofs.Sameness.{Alike, agreed, agreed_same}
use Rattle.compare.specs.Distance.{outermost, code_cost, code_at, body_cost, around, costs, length_cost, ratio_cost, checksum_cost}
use Rattle.compare.specs.Distance.{cost_of, answered, comparability, distance_of}
use Rattle.compare.specs.Lanes.{byte_cost}
use Rattle.compare.specs.Theorems.{EitherOrder, Bytes, ZeroForTheSame, SameForZero}
use Rattle.compare.specs.Theorems.{greatest, AtMost, lowest, highest, Reached, Totals}
use Rattle.compare.proofs.Costs.{byte_more, body_most}
use Rattle.compare.proofs.Answers.{Comparable, comparable_says, comparable_one, distance_refused, distance_sum}

-- ---- either order

apart_turn : (a b : ℕ) → apart a b ≡ apart b a
apart_turn a b = omega arith

eqb_turn : (a b : ℕ) → eqb a b ≡ eqb b a
eqb_turn a b = go (eqb a b) refl
  where
    go : (t : Bool) → eqb a b ≡ t → t ≡ eqb b a
    go true e = sym (eq-eqb b a (sym (eqb-true a b e)))
    go false e = sym (ne_eqb b a (λ q. eqb-false a b e (sym q)))

outermost_turn : (a b : ℕ) → outermost a b ≡ outermost b a
outermost_turn a b =
    rw (and_comm (eqb a 0) (eqb b 3), and_comm (eqb a 3) (eqb b 0)) (or_comm (eqb b 3 && eqb a 0) (eqb b 0 && eqb a 3))

code_turn : (a b : ℕ) → code_cost a b ≡ code_cost b a
unfolding code_cost
code_turn a b = ap₂ (λ (t : Bool) (d : ℕ). cond t 6 d) (outermost_turn a b) (apart_turn a b)

body_turn : (n : ℕ) (xs ys : List ℕ) → body_cost n xs ys ≡ body_cost n ys xs
unfolding body_cost
body_turn zero xs ys = refl
body_turn (suc k) xs ys = ap₂ (λ (p q : ℕ). p + q) (body_turn k xs ys) (code_turn (code_at xs k) (code_at ys k))

around_turn : (n a b : ℕ) → around n a b ≡ around n b a
around_turn n a b = ap (λ (d : ℕ). min d (n - d)) (apart_turn a b)

length_turn : (a b : ℕ) → length_cost a b ≡ length_cost b a
unfolding length_cost
length_turn a b = ap (λ (d : ℕ). costs d (12 * d)) (around_turn 256 a b)

ratio_turn : (a b : ℕ) → ratio_cost a b ≡ ratio_cost b a
unfolding ratio_cost
ratio_turn a b = ap (λ (d : ℕ). costs d (12 * (d - 1))) (around_turn 16 a b)

checksum_turn : (a b : ℕ) → checksum_cost a b ≡ checksum_cost b a
unfolding checksum_cost
checksum_turn a b = ap (λ (t : Bool). cond t 0 1) (eqb_turn a b)

cost_turn : (a b : Digest) → a.variant ≡ b.variant → cost_of a b ≡ cost_of b a
unfolding cost_of
cost_turn a b v =
    let p : body_cost a.variant a.body b.body ≡ body_cost b.variant b.body a.body =
    body_turn a.variant a.body b.body ∙ ap (λ (n : ℕ). body_cost n b.body a.body) v in
    let q = length_turn a.length_code b.length_code in
    let r = ratio_turn (a.ratios % 16) (b.ratios % 16) in
    let s = ratio_turn (a.ratios / 16) (b.ratios / 16) in
    let t = checksum_turn a.checksum b.checksum in
    cc

comparable_turn : (v w : ℕ) → comparability v w ≡ comparability w v
unfolding comparability
comparable_turn v w = rw (and_comm (known v) (known w), eqb_turn v w)

pub either_order : EitherOrder
unfolding distance_of
either_order a b = go n refl ∙ ap (λ (m : Result (Unit {0}) Refusal). answered m (cost_of b a)) (comparable_turn a.variant b.variant)
  where
    n : Result (Unit {0}) Refusal
    n = comparability a.variant b.variant

    go : (m : Result (Unit {0}) Refusal) → n ≡ m → answered m (cost_of a b) ≡ answered m (cost_of b a)
    go (Ok u) e = ap Ok (cost_turn a b (comparable_says a.variant b.variant e).one)
    go (Err r) e = refl

-- ---- 0 for the same

apart_self : (a : ℕ) → apart a a ≡ 0
apart_self a = omega arith

code_self : (a : ℕ) → code_cost a a ≡ 0
unfolding code_cost
code_self a = go (eqb a 0) refl
  where
    go : (t : Bool) → eqb a 0 ≡ t → code_cost a a ≡ 0
    go true e = rw (eqb-true a 0 e)
    go false e = rw (e, and-false (eqb a 3), apart_self a)

-- bodies with the same first m bytes
body_same : (m : ℕ) (xs ys : List ℕ) → ((i : ℕ) → i < m → get_or xs i 0 ≡ get_or ys i 0) → body_cost (4 * m) xs ys ≡ 0
unfolding body_cost byte_cost
body_same zero xs ys h = refl
body_same (suc m) xs ys h =
    let e = byte_more m xs ys in
    let f = h m (omega arith) in
    let y = get_or ys m 0 in
    let z : byte_cost (get_or xs m 0) y ≡ 0 =
    rw f (omega (arith, code_self (y % 4), code_self (y / 4 % 4), code_self (y / 16 % 4), code_self (y / 64 % 4))) in
    e ∙ omega (arith, body_same m xs ys (λ i l. h i (omega arith)), z)

around_self : (n a : ℕ) → around n a a ≡ 0
around_self n a = rw (apart_self a) (omega arith)

length_self : (a : ℕ) → length_cost a a ≡ 0
unfolding length_cost
length_self a = rw (around_self 256 a)

ratio_self : (a : ℕ) → ratio_cost a a ≡ 0
unfolding ratio_cost
ratio_self a = rw (around_self 16 a)

checksum_self : (a : ℕ) → checksum_cost a a ≡ 0
unfolding checksum_cost
checksum_self a = rw (eq-eqb a a refl)

-- a known variant's bytes have four codes each
four_each : (v : ℕ) → known v ≡ true → 4 * bytes_of v ≡ v
four_each = by_variant (λ v. 4 * bytes_of v ≡ v) refl refl refl

cost_alike : (a b : Digest) → known a.variant ≡ true → Alike a b → cost_of a b ≡ 0
unfolding cost_of
cost_alike a b k s =
    let c = body_same (bytes_of a.variant) a.body b.body s.body in
    let d : body_cost a.variant a.body b.body ≡ 0 = rw (four_each a.variant k) at c in
    rw (← s.checksum, ← s.length_code, ← s.ratios)
    (omega (
      arith,
      d,
      length_self a.length_code,
      ratio_self (a.ratios % 16),
      ratio_self (a.ratios / 16),
      checksum_self a.checksum,
    ))

pub zero_for_the_same : ZeroForTheSame
zero_for_the_same a b e =
    let p = agreed a b e in
    distance_sum a b (comparable_one a.variant b.variant p.first p.alike.variant) ∙ ap Ok (cost_alike a b p.first p.alike)

-- ---- the same for 0

apart_zero : (a b : ℕ) → apart a b ≡ 0 → a ≡ b
apart_zero a b e = omega arith

code_zero : (a b : ℕ) → code_cost a b ≡ 0 → a ≡ b
unfolding code_cost
code_zero a b e = go (outermost a b) e
  where
    go : (t : Bool) → cond t 6 (apart a b) ≡ 0 → a ≡ b
    go true e = omega arith
    go false e = apart_zero a b e

four_codes : (x : ℕ) → x < 256 → x ≡ x % 4 + 4 * (x / 4 % 4) + 16 * (x / 16 % 4) + 64 * (x / 64 % 4)
four_codes x h =
    let a : x ≡ x % 4 + 4 * (x / 4) = omega arith in
    let b : x / 4 ≡ x / 4 % 4 + 4 * (x / 16) = omega arith in
    let c : x / 16 ≡ x / 16 % 4 + 4 * (x / 64) = omega arith in
    let d : x / 64 ≡ x / 64 % 4 = omega arith in
    omega arith

byte_zero : (x y : ℕ) → x < 256 → y < 256 → byte_cost x y ≡ 0 → x ≡ y
unfolding byte_cost
byte_zero x y h k e =
    let a : x % 4 ≡ y % 4 = code_zero (x % 4) (y % 4) (omega arith) in
    let b : x / 4 % 4 ≡ y / 4 % 4 = code_zero (x / 4 % 4) (y / 4 % 4) (omega arith) in
    let c : x / 16 % 4 ≡ y / 16 % 4 = code_zero (x / 16 % 4) (y / 16 % 4) (omega arith) in
    let d : x / 64 % 4 ≡ y / 64 % 4 = code_zero (x / 64 % 4) (y / 64 % 4) (omega arith) in
    four_codes x h ∙ rw (a, b, c, d) (sym (four_codes y k))

-- bodies of bytes whose codes cost nothing have the same bytes
body_zero : (m : ℕ) (xs ys : List ℕ) → ((i : ℕ) → get_or xs i 0 < 256) → ((i : ℕ) → get_or ys i 0 < 256)
    → body_cost (4 * m) xs ys ≡ 0 → (i : ℕ) → i < m → get_or xs i 0 ≡ get_or ys i 0
body_zero zero xs ys p q e i h = absurd (omega arith)
body_zero (suc m) xs ys p q e i h =
    let f = byte_more m xs ys in
    let last = byte_zero (get_or xs m 0) (get_or ys m 0) (p m) (q m) (omega arith) in
    go (eqb i m) refl last (body_zero m xs ys p q (omega arith) i)
  where
    below_last : (i m : ℕ) → i < suc m → (i ≡ m → ⊥) → i < m
    below_last i m h n = omega arith

    go : (t : Bool) → eqb i m ≡ t → get_or xs m 0 ≡ get_or ys m 0 → (i < m → get_or xs i 0 ≡ get_or ys i 0) → get_or xs i 0 ≡ get_or ys i 0
    go true s last before = rw (eqb-true i m s) last
    go false s last before = before (below_last i m h (eqb-false i m s))

-- around a circle only equal numbers are not apart
around_zero : (n a b : ℕ) → a < n → b < n → around n a b ≡ 0 → a ≡ b
around_zero n a b h k e = apart_zero a b (omega arith)

length_zero : (a b : ℕ) → a < 256 → b < 256 → length_cost a b ≡ 0 → a ≡ b
unfolding length_cost
length_zero a b h k e = around_zero 256 a b h k (go (leb (around 256 a b) 1) e)
  where
    go : (t : Bool) → cond t (around 256 a b) (12 * around 256 a b) ≡ 0 → around 256 a b ≡ 0
    go true e = e
    go false e = omega arith

ratio_zero : (a b : ℕ) → a < 16 → b < 16 → ratio_cost a b ≡ 0 → a ≡ b
unfolding ratio_cost
ratio_zero a b h k e = around_zero 16 a b h k (go (leb (around 16 a b) 1) refl e)
  where
    go : (t : Bool) → leb (around 16 a b) 1 ≡ t → cond t (around 16 a b) (12 * (around 16 a b - 1)) ≡ 0 → around 16 a b ≡ 0
    go true l e = e
    go false l e = omega (arith, leb-false (around 16 a b) 1 l)

checksum_zero : (a b : ℕ) → checksum_cost a b ≡ 0 → a ≡ b
unfolding checksum_cost
checksum_zero a b e = go (eqb a b) refl e
  where
    go : (t : Bool) → eqb a b ≡ t → ◌≡◌ {A = ℕ} (cond t 0 1) 0 → a ≡ b
    go true q e = eqb-true a b q
    go false q e = absurd (omega arith)

cost_zero : (a b : Digest) → Bytes a → Bytes b → known a.variant ≡ true → a.variant ≡ b.variant → cost_of a b ≡ 0 → Alike a b
unfolding cost_of
cost_zero a b f g k v e =
    let c : body_cost a.variant a.body b.body ≡ 0 = omega arith in
    let d : body_cost (4 * bytes_of a.variant) a.body b.body ≡ 0 = rw (four_each a.variant k) c in
    let q₁ : a.ratios % 16 ≡ b.ratios % 16 = ratio_zero (a.ratios % 16) (b.ratios % 16) (omega arith) (omega arith) (omega arith) in
    let q₂ : a.ratios / 16 ≡ b.ratios / 16 =
    ratio_zero (a.ratios / 16) (b.ratios / 16) (omega (arith, f.ratios)) (omega (arith, g.ratios)) (omega arith) in
    record {
      variant = v;
      checksum = checksum_zero a.checksum b.checksum (omega arith);
      length_code = length_zero a.length_code b.length_code f.length_code g.length_code (omega arith);
      ratios = omega arith;
      body = body_zero (bytes_of a.variant) a.body b.body f.body g.body d;
    }

-- a distance is the sum, and is given where the two can be compared
summed : (a b : Digest) (d : ℕ) → distance_of a b ≡ Ok d → Comparable a.variant b.variant × (cost_of a b ≡ d)
summed a b d e = go (comparability a.variant b.variant) refl
  where
    go : (m : Result (Unit {0}) Refusal) → comparability a.variant b.variant ≡ m → Comparable a.variant b.variant × (cost_of a b ≡ d)
    go (Ok u) q = (comparable_says a.variant b.variant q, cc (distance_sum a b q, e))
    go (Err r) q = let f = distance_refused a b r q in cc

pub same_for_zero : SameForZero
same_for_zero a b f g e =
    let p = summed a b 0 e in
    agreed_same a b
    (record { first = p.0.first; second = p.0.second; alike = cost_zero a b f g p.0.first p.0.one p.1 })

-- ---- the greatest

around_most : (n a b : ℕ) → 2 * around n a b ≤ n
around_most n a b = omega arith

length_most : (a b : ℕ) → length_cost a b ≤ 12 * 128
unfolding length_cost
length_most a b = go (leb (around 256 a b) 1)
  where
    go : (t : Bool) → cond t (around 256 a b) (12 * around 256 a b) ≤ 12 * 128
    go true = omega (arith, around_most 256 a b)
    go false = omega (arith, around_most 256 a b)

ratio_most : (a b : ℕ) → ratio_cost a b ≤ 12 * 7
unfolding ratio_cost
ratio_most a b = go (leb (around 16 a b) 1)
  where
    go : (t : Bool) → cond t (around 16 a b) (12 * (around 16 a b - 1)) ≤ 12 * 7
    go true = omega (arith, around_most 16 a b)
    go false = omega (arith, around_most 16 a b)

checksum_most : (a b : ℕ) → checksum_cost a b ≤ 1
unfolding checksum_cost
checksum_most a b = go (eqb a b)
  where
    go : (t : Bool) → cond t 0 1 ≤ 1
    go true = omega arith
    go false = omega arith

cost_most : (a b : Digest) → cost_of a b ≤ greatest a.variant
unfolding cost_of
cost_most a b =
    omega (
      arith,
      body_most a.variant a.body b.body,
      length_most a.length_code b.length_code,
      ratio_most (a.ratios % 16) (b.ratios % 16),
      ratio_most (a.ratios / 16) (b.ratios / 16),
      checksum_most a.checksum b.checksum,
    )

pub at_most : AtMost
at_most a b d e = rw (← (summed a b d e).1) (cost_most a b)

-- every pair of codes of a body of zeros and one of ones is 0 against 3
abbrev at_zeros : ℕ → ℕ
at_zeros k = code_cost (code_at (replicate 64 0) k) (code_at (replicate 64 255) k)

six_each : (k : ℕ) → k < 256 → at_zeros k ≡ 6
unfolding code_cost code_at
six_each k h = eqb→eq (at_zeros k) 6 (below (λ (j : ℕ). eqb (at_zeros j) 6) 256 tt k h)

six_all : (n : ℕ) → n ≤ 256 → body_cost n (replicate 64 0) (replicate 64 255) ≡ 6 * n
unfolding body_cost
six_all zero h = refl
six_all (suc n) h = omega (arith, six_all n (omega arith), six_each n (omega arith))

pub reached : Reached
unfolding cost_of length_cost ratio_cost checksum_cost
reached v k =
    distance_sum (lowest v) (highest v) (comparable_one v v k refl)
    ∙ rw (six_all v (known_most v k)) (sum (6 * v))
  where
    sum : (n : ℕ) → ◌≡◌ {A = Result ℕ Refusal} (Ok (n + 1536 + 84 + 84 + 1)) (Ok (n + 1536 + 168 + 1))
    sum n = ap Ok (omega arith)

pub totals : Totals
totals = (refl, refl, refl)
