-- When two digests are the same: the laws that `same` cites, and that it is an equivalence, and equality for records that the port makes.
-- Assumes nothing.
use mathlib.Core.Path.{◌≡◌, refl, sym, ◌∙◌, ap}
use mathlib.Core.Bool.{Bool, true, false, ◌&&◌, and_comm}
use mathlib.Core.List.{List}
use Prim.Native.Nat.{ℕ, zero, suc, ◌≤◌, ◌<◌}
use native.Mathlib.Nat.{not-suc-le-zero, le_of_suc-le-suc}
use native.Mathlib.Omega.{arith}
use lib.Arith.{lt_of_le-ne}
use lib.Dec.{ltb, eqb}
use Rattle.std.specs.Prelude.{Ok, Err}
use Rattle.std.specs.Cmp.Lexicographic.{pointwise}
use Rattle.std.proofs.lemmas.Slice.Eq.{bytes_eq-Decides}
use Rattle.params.specs.declared.Refusal.TheVariants.{UnknownVariant}
use lib.ListN.{length, get_or, take}
use Rattle.std.proofs.lemmas.List.{get_or-take}
use lib.Seq.{ext_get_or, length-take-le}
use borrow.Author.Tests.{eq-eqb, eqb-true, eqb-false, ltb-true, ltb-false}
use Rattle.params.specs.Variants.{known}
use Rattle.params.proofs.Variants.{known_buckets}
use Rattle.hash.specs.declared.Digest.{Digest}
use Rattle.body.specs.Body.{bytes_of}
use Rattle.hash.specs.Digest.{first_equal, same_fields, same_of, Made}
use Rattle.hash.specs.Theorems.{are_same, SameReflexive, SameSymmetric, SameTransitive, SameEqual, EqualSame}
use Rattle.params.proofs.Tests.{and_both}

-- of one variant, with equal used fields
pub record Alike (a b : Digest) : Type 0 where
  pub variant : a.variant ≡ b.variant
  pub checksum : a.checksum ≡ b.checksum
  pub length_code : a.length_code ≡ b.length_code
  pub ratios : a.ratios ≡ b.ratios
  pub body : (i : ℕ) → i < bytes_of a.variant → get_or a.body i 0 ≡ get_or b.body i 0

-- two tests that pass alike are equal
alike_tests : (p q : Bool) → (p ≡ true → q ≡ true) → (q ≡ true → p ≡ true) → p ≡ q
alike_tests true q f g = sym (f refl)
alike_tests false true f g = g refl
alike_tests false false f g = refl

-- what the comparison of the first n entries says
first_at : (n : ℕ) (x y : List ℕ) → first_equal n x y ≡ true → (i : ℕ) → i < n → get_or x i 0 ≡ get_or y i 0
first_at zero x y e i h = absurd (not-suc-le-zero h)
first_at (suc n) x y e i h =
    let p = and_both (first_equal n x y) (eqb (get_or x n 0) (get_or y n 0)) e in
    go (eqb i n) refl (λ (l : i < n). first_at n x y p.0 i l) (eqb-true (get_or x n 0) (get_or y n 0) p.1)
  where
    go : (b : Bool) → eqb i n ≡ b → (i < n → get_or x i 0 ≡ get_or y i 0) → get_or x n 0 ≡ get_or y n 0 → get_or x i 0 ≡ get_or y i 0
    go true q before last = rw (eqb-true i n q) last
    go false q before last = before (lt_of_le-ne (le_of_suc-le-suc h) (eqb-false i n q))

-- and what makes it pass
at_first : (n : ℕ) (x y : List ℕ) → ((i : ℕ) → i < n → get_or x i 0 ≡ get_or y i 0) → first_equal n x y ≡ true
at_first zero x y p = refl
at_first (suc n) x y p =
    let ih = at_first n x y (λ (i : ℕ) (h : i < n). p i (omega arith)) in
    rw (ih, eq-eqb (get_or x n 0) (get_or y n 0) (p n (omega arith)))

-- the comparison is that of the first n entries as lists
pub first_is : (n : ℕ) (x y : List ℕ) → n ≤ length x → n ≤ length y → pointwise eqb (take n x) (take n y) ≡ first_equal n x y
first_is n x y p q =
    alike_tests _ _
    (λ (e : pointwise eqb (take n x) (take n y) ≡ true).
    let l : take n x ≡ take n y = (bytes_eq-Decides (take n x) (take n y)).0 e in
    at_first n x y (λ (i : ℕ) (h : i < n). sym (get_or-take n x i 0 h) ∙ ap (λ (l : List ℕ). get_or l i 0) l ∙ get_or-take n y i 0 h))
    (λ (e : first_equal n x y ≡ true). (bytes_eq-Decides (take n x) (take n y)).1
    (ext_get_or 0 (take n x) (take n y) (length-take-le n x p ∙ sym (length-take-le n y q))
    (λ (i : ℕ) (h : i < length (take n x)).
    let k : i < n = omega (arith, length-take-le n x p) in
    get_or-take n x i 0 k ∙ first_at n x y e i k ∙ sym (get_or-take n y i 0 k))))

-- the answer 6, and the answer of two that are known
pub same_first : (a b : Digest) → known a.variant ≡ false → same_of a b ≡ Err UnknownVariant
unfolding same_of
same_first a b k = rw k

pub same_second : (a b : Digest) → known b.variant ≡ false → same_of a b ≡ Err UnknownVariant
unfolding same_of
same_second a b k = rw (k, and_comm (known a.variant) false)

pub same_both : (a b : Digest) → known a.variant ≡ true → known b.variant ≡ true → same_of a b ≡ Ok (same_fields a b)
unfolding same_of
same_both a b k l = rw (k, l)

-- what the check of `same` takes from here
pub ruleset same_steps = (same_first, same_second, same_both, known_buckets, first_is)

-- the comparison of the fields passes for no others
same_alike : (a b : Digest) → same_fields a b ≡ true → Alike a b
unfolding same_fields
same_alike a b e =
    let n = bytes_of a.variant in
    let v = eqb a.variant b.variant in
    let c = eqb a.checksum b.checksum in
    let l = eqb a.length_code b.length_code in
    let r = eqb a.ratios b.ratios in
    let p₄ = and_both (v && c && l && r) (first_equal n a.body b.body) e in
    let p₃ = and_both (v && c && l) r p₄.0 in
    let p₂ = and_both (v && c) l p₃.0 in
    let p₁ = and_both v c p₂.0 in
    record {
      variant = eqb-true a.variant b.variant p₁.0;
      checksum = eqb-true a.checksum b.checksum p₁.1;
      length_code = eqb-true a.length_code b.length_code p₂.1;
      ratios = eqb-true a.ratios b.ratios p₃.1;
      body = first_at n a.body b.body p₄.1;
    }

-- and for these
alike_same : (a b : Digest) → Alike a b → same_fields a b ≡ true
unfolding same_fields
alike_same a b p =
    rw (
      eq-eqb a.variant b.variant p.variant,
      eq-eqb a.checksum b.checksum p.checksum,
      eq-eqb a.length_code b.length_code p.length_code,
      eq-eqb a.ratios b.ratios p.ratios,
    )
    (at_first (bytes_of a.variant) a.body b.body p.body)

-- a digest agrees with itself
alike_self : (a : Digest) → Alike a a
alike_self a =
    record {
      variant = refl;
      checksum = refl;
      length_code = refl;
      ratios = refl;
      body = λ (i : ℕ) (h : i < bytes_of a.variant). refl;
    }

-- in either order
alike_turn : (a b : Digest) → Alike a b → Alike b a
alike_turn a b p =
    record {
      variant = sym p.variant;
      checksum = sym p.checksum;
      length_code = sym p.length_code;
      ratios = sym p.ratios;
      body = λ (i : ℕ) (h : i < bytes_of b.variant). sym (p.body i (rw p.variant h));
    }

-- and by way of a third
alike_chain : (a b c : Digest) → Alike a b → Alike b c → Alike a c
alike_chain a b c p q =
    record {
      variant = p.variant ∙ q.variant;
      checksum = p.checksum ∙ q.checksum;
      length_code = p.length_code ∙ q.length_code;
      ratios = p.ratios ∙ q.ratios;
      body = λ (i : ℕ) (h : i < bytes_of a.variant). p.body i h ∙ q.body i (rw (← p.variant) h);
    }

-- a digest is the same as itself
pub same_reflexive : SameReflexive
unfolding same_of
same_reflexive a k = rw (k, alike_same a a (alike_self a))

-- the fields of two digests agree in either order
fields_turn : (a b : Digest) → same_fields a b ≡ true → same_fields b a ≡ true
fields_turn a b e = alike_same b a (alike_turn a b (same_alike a b e))

-- either order gives one answer
pub same_symmetric : SameSymmetric
unfolding same_of
same_symmetric a b =
    rw (
      and_comm (known a.variant) (known b.variant),
      alike_tests (same_fields a b) (same_fields b a) (fields_turn a b) (fields_turn b a),
    )

-- what the answer `true` says
pub record Agreed (a b : Digest) : Type 0 where
  pub first : known a.variant ≡ true
  pub second : known b.variant ≡ true
  pub alike : Alike a b

-- it is given for no others
pub agreed : (a b : Digest) → same_of a b ≡ are_same → Agreed a b
agreed a b e = go (known a.variant) refl (known b.variant) refl
  where
    go : (p : Bool) → known a.variant ≡ p → (q : Bool) → known b.variant ≡ q → Agreed a b
    go true k true l = let f : same_fields a b ≡ true = cc (same_both a b k l, e) in record { first = k; second = l; alike = same_alike a b f }
    go true k false l = let f = same_second a b l in cc
    go false k q l = let f = same_first a b k in cc

-- and for these
pub agreed_same : (a b : Digest) → Agreed a b → same_of a b ≡ are_same
unfolding same_of
agreed_same a b p = rw (p.first, p.second, alike_same a b p.alike)

-- two that are the same as one are the same
pub same_transitive : SameTransitive
same_transitive a b c e f =
    let p = agreed a b e in
    let q = agreed b c f in
    agreed_same a c (record { first = p.first; second = q.second; alike = alike_chain a b c p.alike q.alike })

-- the bodies of two records that the port makes are equal where the used bytes are
made_bodies : (a b : Digest) → Made a → Made b → Alike a b → a.body ≡ b.body
made_bodies a b m n p =
    ext_get_or 0 a.body b.body (m.long ∙ sym n.long)
    (λ (i : ℕ) (h : i < length a.body). go i (ltb i (bytes_of a.variant)) refl)
  where
    go : (i : ℕ) (t : Bool) → ltb i (bytes_of a.variant) ≡ t → get_or a.body i 0 ≡ get_or b.body i 0
    go i true e = p.body i (ltb-true i (bytes_of a.variant) e)
    go i false e =
        let h = ltb-false i (bytes_of a.variant) e in
        m.rest i h ∙ sym (n.rest i (rw (← p.variant) h))

-- of records that the port makes, those that are the same are equal
pub same_equal : SameEqual
same_equal a b m n e =
    let p = (agreed a b e).alike in
    λ i. record {
      body = made_bodies a b m n p i;
      variant = p.variant i;
      checksum = p.checksum i;
      length_code = p.length_code i;
      ratios = p.ratios i;
    }

-- and those that are equal are the same
pub equal_same : EqualSame
equal_same a b m e = rw (← e) (same_reflexive a m.variant)
