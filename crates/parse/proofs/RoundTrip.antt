-- Reading what was written gives the digest, for every record that the port makes; and the size of its text.
-- Assumes nothing.
use mathlib.Core.Path.{◌≡◌, refl, sym, ◌∙◌, ap}
use mathlib.Core.Bool.{Bool, true, false, cond}
use mathlib.Core.List.{List, [], ◌∷◌, ◌++◌}
use Prim.Native.Nat.{ℕ, zero, suc, ◌+◌, ◌-◌, ◌/◌, ◌%◌, ◌<◌}
use native.Mathlib.Omega.{arith}
use lib.Dec.{ltb, eqb}
use lib.ListN.{length, get_or, take, drop, replicate, length-drop, take-append-drop}
use lib.Seq.{take_at, length-take-le, get_or-drop}
use Rattle.std.specs.Prelude.{Ok, Err}
use Rattle.params.specs.declared.Refusal.TheVariants.{ShortDestination}
use Rattle.params.proofs.Variants.{by_variant}
use Rattle.hash.specs.declared.Digest.{Digest}
use Rattle.body.specs.Body.{bytes_of}
use Rattle.hash.specs.Digest.{Made}
use Rattle.text.specs.Text.{low_first, body_text, text_of, text_size, write_of}
use Rattle.parse.specs.Reading.{all_digits, bytes_from, body_from, digest_from, begins_t1, read_of}
use Rattle.parse.specs.Theorems.{TextRead, TextSizes, ReadWritten}
use Rattle.parse.proofs.Digits.{digit_good, byte_back}
use Rattle.parse.proofs.Reading.{digits_0, read_0}
use Rattle.text.proofs.Writing.{length_text}

-- every entry of a list is a byte
abbrev Bytes : List ℕ → Type 0
Bytes xs = (i : ℕ) → get_or xs i 0 < 256

-- the first entries of a list of bytes are bytes
bytes_take : (n : ℕ) (xs : List ℕ) → Bytes xs → Bytes (take n xs)
bytes_take zero xs p i = omega arith
bytes_take (suc n) [] p i = omega arith
bytes_take (suc n) (x ∷ xs) p zero = p 0
bytes_take (suc n) (x ∷ xs) p (suc i) = bytes_take n xs (λ (k : ℕ). p (suc k)) i

-- a list of zeros is a row of them
zeros_are : (xs : List ℕ) → ((i : ℕ) → get_or xs i 0 ≡ 0) → xs ≡ replicate (length xs) 0
zeros_are [] z = refl
zeros_are (x ∷ xs) z =
    let h : x ≡ 0 = z 0 in
    rw h (ap (λ (l : List ℕ). 0 ∷ l) (zeros_are xs (λ (k : ℕ). z (suc k))))

-- a body that the port makes is its used bytes, and 0 after them
made_body : (d : Digest) → Made d → d.body ≡ take (bytes_of d.variant) d.body ++ replicate (64 - bytes_of d.variant) 0
made_body d m =
    let n = bytes_of d.variant in
    let l : length (drop n d.body) ≡ 64 - n = simp length-drop (omega (arith, m.long)) in
    let z : (i : ℕ) → get_or (drop n d.body) i 0 ≡ 0 = λ (i : ℕ). get_or-drop n d.body i 0 ∙ m.rest (n + i) (omega arith) in
    let r : drop n d.body ≡ replicate (64 - n) 0 = rw l at (zeros_are (drop n d.body) z) in
    sym (rw r at (take-append-drop n d.body))

-- the digits of a byte are digits
digits_of_lem : (b : ℕ) (cs : List ℕ) → b < 256 → all_digits cs ≡ true → all_digits (low_first b ++ cs) ≡ true
digits_of_lem b cs h e = rw (digit_good (b % 16) (omega arith), digit_good (b / 16) (omega arith)) e

-- so are those of a row of bytes
digits_body : (bs : List ℕ) → Bytes bs → all_digits (body_text bs) ≡ true
digits_body [] p = refl
digits_body (b ∷ bs) p =
    let h : b < 256 = p 0 in
    rw (digit_good (b / 16) (omega arith), digit_good (b % 16) (omega arith)) (digits_body bs (λ (k : ℕ). p (suc k)))

-- bytes come back from their text
bytes_back : (bs : List ℕ) → Bytes bs → bytes_from (body_text bs) ≡ bs
bytes_back [] p = refl
bytes_back (b ∷ bs) p =
    let x = byte_back b (p 0) in
    let ih = bytes_back bs (λ (k : ℕ). p (suc k)) in
    rw (x, ih)

module _ (d : Digest) (m : Made d) where
  -- the variant uses as many bytes as it should
  used_made : length (take (bytes_of d.variant) d.body) ≡ bytes_of d.variant
  used_made = length-take-le (bytes_of d.variant) d.body (omega (arith, m.long))

  -- what stands after `T1` is digits alone
  digits_good : all_digits (drop 2 (text_of d)) ≡ true
  unfolding text_of
  digits_good =
      let used = take (bytes_of d.variant) d.body in
      digits_of_lem d.checksum (low_first d.length_code ++ low_first d.ratios ++ body_text used) m.checksum
      (digits_of_lem d.length_code (low_first d.ratios ++ body_text used) m.length_code
      (digits_of_lem d.ratios (body_text used) m.ratios (digits_body used (bytes_take (bytes_of d.variant) d.body m.bytes))))

  -- and gives the digest
  digest_back : digest_from d.variant (drop 2 (text_of d)) ≡ d
  unfolding digest_from body_from text_of
  digest_back =
      let n = bytes_of d.variant in
      let used = take n d.body in
      let b : bytes_from (body_text used) ≡ used = bytes_back used (bytes_take n d.body m.bytes) in
      let w : body_from (drop 2 (text_of d)) ≡ d.body = rw (b, used_made) (sym (made_body d m)) in
      λ i. record {
        body = w i;
        variant = d.variant;
        checksum = byte_back d.checksum m.checksum i;
        length_code = byte_back d.length_code m.length_code i;
        ratios = byte_back d.ratios m.ratios i;
      }

-- reading a digest's text gives the digest
pub text_read : TextRead
text_read d m =
    let begins : begins_t1 (text_of d) ≡ true = unfold text_of in refl in
    read_0 d.variant (text_of d) m.variant (length_text d m.long) begins
    ∙ digits_0 d.variant (drop 2 (text_of d)) (digits_good d m)
    ∙ ap Ok (digest_back d m)

-- the text has 32, 72 or 136 characters
pub text_sizes : TextSizes
text_sizes d m =
    length_text d m.long
    ∙ by_variant (λ (v : ℕ). text_size v ≡ cond (eqb v 48) 32 (cond (eqb v 128) 72 136)) refl refl refl d.variant m.variant

-- reading the characters that were written gives the digest
pub read_written : ReadWritten
unfolding write_of
read_written d destination m e = go (ltb (length destination) (length (text_of d))) refl
  where
    go : (b : Bool) → ltb (length destination) (length (text_of d)) ≡ b
        → read_of d.variant (take (text_size d.variant) (write_of d destination).destination) ≡ Ok d
    go true q =
        let z : Err ShortDestination ≡ Ok tt = rw (m.variant, q) at e in
        cc
    go false q =
        let rest = drop (length (text_of d)) destination in
        rw (m.variant, q, take_at (text_of d) rest (text_size d.variant) (length_text d m.long)) (text_read d m)
