-- The laws that the writer's functions cite: the stores one after the other, a variant's body, the text's size, and each answer.
-- Assumes nothing.
use mathlib.Core.Path.{◌≡◌, refl, sym, ◌∙◌, ap}
use mathlib.Core.Bool.{true, false}
use mathlib.Core.List.{List, [], ◌∷◌, ◌++◌}
use Prim.Native.Nat.{ℕ, suc, ◌+◌, ◌*◌, ◌≤◌, ◌<◌}
use native.Mathlib.Nat.{zero-add, add-zero}
use native.Mathlib.Omega.{arith}
use lib.ListN.{length, set, take, drop}
use lib.Seq.{sets, sets-eq, length-take-le}
use borrow.Author.Tests.{lt-ltb, le-ltb}
use Rattle.std.specs.Prelude.{Ok, Err}
use Rattle.params.specs.declared.Variant.{Variant}
use Rattle.params.specs.declared.Refusal.TheVariants.{UnknownVariant, ShortDestination}
use Rattle.params.specs.Variants.{known, buckets}
use Rattle.params.proofs.Variants.{known_buckets}
use Rattle.hash.specs.declared.Digest.{Digest}
use Rattle.body.specs.Body.{bytes_of}
use Rattle.text.specs.Text.{size_of, head_text, body_text, text_of, text_size, Written, write_of}

-- two lists of stores, one after the other
pub sets_append : (vs ws l : List ℕ) (i : ℕ) → sets l i (vs ++ ws) ≡ sets (sets l i vs) (i + length vs) ws
sets_append [] ws l i = rw add-zero
sets_append (v ∷ vs) ws l i =
    let e : i + suc (length vs) ≡ suc i + length vs = omega arith in
    rw e (sets_append vs ws (set l i v) (suc i))

-- each byte has two digits
length-body_text : (xs : List ℕ) → length (body_text xs) ≡ 2 * length xs
length-body_text [] = refl
length-body_text (x ∷ xs) = omega (arith, length-body_text xs)

-- the text of a record with a body of 64 bytes has its variant's size
pub length_text : (d : Digest) → length d.body ≡ 64 → length (text_of d) ≡ text_size d.variant
unfolding text_of
length_text d h =
    let used = take (bytes_of d.variant) d.body in
    let n : length used ≡ bytes_of d.variant = length-take-le (bytes_of d.variant) d.body (omega arith) in
    omega (arith, length-body_text used)

-- the answer 6
pub write_6 : (d : Digest) (destination : List ℕ) → known d.variant ≡ false
    → Written (Err UnknownVariant) destination (write_of d destination)
unfolding write_of
write_6 d destination k = rw k record { answered = refl; left = refl }

module _ (d : Digest) (v : Variant) (destination : List ℕ) (h : length d.body ≡ 64) (k : d.variant ≡ buckets v) where
  -- the answer 7
  pub write_7 : length destination < text_size (buckets v) → Written (Err ShortDestination) destination (write_of d destination)
  unfolding write_of
  write_7 l =
      let s : length (text_of d) ≡ text_size (buckets v) = length_text d h ∙ ap text_size k in
      let e : known d.variant ≡ true = rw k (known_buckets v) in
      rw (e, lt-ltb (length destination) (length (text_of d)) (omega arith)) record { answered = refl; left = refl }

  -- the answer 0: the stores of the head and of the body leave the text, and after it what was there
  pub write_0 : (l₁ l₂ : List ℕ) → text_size (buckets v) ≤ length destination
      → l₁ ≡ sets destination 0 (head_text d.checksum d.length_code d.ratios)
      → l₂ ≡ sets l₁ 8 (body_text (take (bytes_of (buckets v)) d.body)) → Written (Ok tt) l₂ (write_of d destination)
  unfolding write_of text_of
  write_0 l₁ l₂ l q₁ q₂ =
      let s : length (text_of d) ≡ text_size (buckets v) = length_text d h ∙ ap text_size k in
      let e : known d.variant ≡ true = rw k (known_buckets v) in
      let f : length (text_of d) ≤ length destination = omega arith in
      let head = head_text d.checksum d.length_code d.ratios in
      let w : l₂ ≡ text_of d ++ drop (length (text_of d)) destination =
      rw (q₂, q₁, ← k)
      (sym (sets_append head (body_text (take (bytes_of d.variant) d.body)) destination 0)
      ∙ sets-eq (text_of d) destination 0 (rw zero-add f)
      ∙ ap (λ (n : ℕ). text_of d ++ drop n destination) (zero-add (length (text_of d)))) in
      rw (e, le-ltb (length destination) (length (text_of d)) f) record { answered = refl; left = w }

-- the size of a text: 6 for another variant, and else that of the variant
pub size_unknown : (v : ℕ) → known v ≡ false → size_of v ≡ Err UnknownVariant
unfolding size_of
size_unknown v k = rw k

pub size_known : (v : ℕ) → known v ≡ true → size_of v ≡ Ok (text_size v)
unfolding size_of
size_known v k = rw k

-- what the check of `text_size` takes from here
pub ruleset sizes = (size_unknown, size_known, known_buckets)
