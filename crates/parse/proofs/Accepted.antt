-- What it says that a text was read: it is of the written form, the digest is one that the port makes, and its text is
-- the text that was read. So no two texts are read to one digest.
-- Assumes nothing.
use mathlib.Core.Path.{◌≡◌, refl, sym, ◌∙◌, ap}
use mathlib.Core.Bool.{Bool, true, false}
use mathlib.Core.List.{List, [], ◌∷◌, ◌++◌}
use Prim.Native.Nat.{ℕ, zero, suc, ◌+◌, ◌-◌, ◌*◌, ◌≤◌, ◌<◌}
use native.Mathlib.Omega.{arith}
use lib.Dec.{eqb}
use lib.ListN.{length, get_or, take, drop, replicate, length-append, length-drop, length-replicate}
use lib.Seq.{take_at}
use borrow.Author.Tests.{eqb-true, eqb-false, le-ltb}
use Rattle.params.specs.Variants.{known}
use Rattle.std.specs.Prelude.{Ok}
use Rattle.hash.specs.declared.Digest.{Digest}
use Rattle.body.proofs.Padded.{padded_small, padded_rest}
use Rattle.body.specs.Body.{bytes_of}
use Rattle.hash.specs.Digest.{Made}
use Rattle.text.specs.Text.{body_text, text_of, text_size, write_of}
use Rattle.parse.specs.Reading.{is_digit, all_digits, byte_at, bytes_from, body_from, digest_from, begins_t1, read_of}
use Rattle.parse.specs.Theorems.{TextAgain, WriteAgain, ReadMade, ReadVariant, OneText}
use Rattle.params.proofs.Tests.{and_both}
use Rattle.parse.proofs.Digits.{low_back, high_back, byte_small, digits_head, digits_tail, digits_at}
use Rattle.parse.proofs.Reading.{length_bytes, digits_9, digits_0, read_6, read_8, read_9, read_0}

-- a text of the written form
pub record Accepted (v : ℕ) (s : List ℕ) : Type 0 where
  pub variant : known v ≡ true
  pub size : length s ≡ text_size v
  pub begins : begins_t1 s ≡ true
  pub digits : all_digits (drop 2 s) ≡ true

-- a digest is read from no other
pub accepted : (v : ℕ) (s : List ℕ) (d : Digest) → read_of v s ≡ Ok d → Accepted v s
accepted v s d e = go (known v) refl (eqb (length s) (text_size v)) refl (begins_t1 s) refl (all_digits (drop 2 s)) refl
  where
    go : (a : Bool) → known v ≡ a → (b : Bool) → eqb (length s) (text_size v) ≡ b → (c : Bool) → begins_t1 s ≡ c → (d : Bool)
        → all_digits (drop 2 s) ≡ d → Accepted v s
    go true p true q true r true t = record { variant = p; size = eqb-true (length s) (text_size v) q; begins = r; digits = t }
    go true p true q true r false t =
        let f = read_0 v s p (eqb-true (length s) (text_size v) q) r in
        let g = digits_9 v (drop 2 s) t in
        cc
    go true p true q false r d t = let f = read_9 v s p (eqb-true (length s) (text_size v) q) r in cc
    go true p false q c r d t = let f = read_8 v s p (eqb-false (length s) (text_size v) q) in cc
    go false p b q c r d t = let f = read_6 v s p in cc

-- and always from one of it, that of the digits after `T1`
pub accepted_read : (v : ℕ) (s : List ℕ) → Accepted v s → read_of v s ≡ Ok (digest_from v (drop 2 s))
accepted_read v s a = read_0 v s a.variant a.size a.begins ∙ digits_0 v (drop 2 s) a.digits

-- so it is that one
pub read_is : (v : ℕ) (s : List ℕ) (d : Digest) → read_of v s ≡ Ok d → digest_from v (drop 2 s) ≡ d
read_is v s d e = cc (accepted_read v s (accepted v s d e))

-- the text of the bytes of digits is those digits
text_back : (cs : List ℕ) (n : ℕ) → length cs ≡ 2 * n → all_digits cs ≡ true → body_text (bytes_from cs) ≡ cs
text_back [] n l e = refl
text_back (h ∷ []) n l e = absurd (omega arith)
text_back (h ∷ l ∷ cs) zero k e = absurd (omega arith)
text_back (h ∷ l ∷ cs) (suc n) k e =
    let f = digits_tail h (l ∷ cs) e in
    let p = digits_head h (l ∷ cs) e in
    let q = digits_head l cs f in
    rw (low_back l h q p, high_back l h q p) (ap (λ (t : List ℕ). h ∷ l ∷ t) (text_back cs n (omega arith) (digits_tail l cs f)))

-- the text of the digest of digits is those digits behind `T1`
spread_text : (v n a b c d f g : ℕ) (cs : List ℕ) → n ≡ bytes_of v → length cs ≡ 2 * n
    → all_digits (a ∷ b ∷ c ∷ d ∷ f ∷ g ∷ cs) ≡ true
    → text_of (digest_from v (a ∷ b ∷ c ∷ d ∷ f ∷ g ∷ cs)) ≡ 84 ∷ 49 ∷ a ∷ b ∷ c ∷ d ∷ f ∷ g ∷ cs
unfolding text_of digest_from body_from
spread_text v n a b c d f g cs u l e =
    let t = a ∷ b ∷ c ∷ d ∷ f ∷ g ∷ cs in
    let is_a : is_digit a ≡ true = digits_at t 0 e (omega arith) in
    let is_b : is_digit b ≡ true = digits_at t 1 e (omega arith) in
    let isC : is_digit c ≡ true = digits_at t 2 e (omega arith) in
    let isD : is_digit d ≡ true = digits_at t 3 e (omega arith) in
    let isF : is_digit f ≡ true = digits_at t 4 e (omega arith) in
    let isG : is_digit g ≡ true = digits_at t 5 e (omega arith) in
    let e₆ : all_digits cs ≡ true = rw (is_a, is_b, isC, isD, isF, isG) at e in
    let w : take (bytes_of v) (bytes_from cs ++ replicate (64 - length (bytes_from cs)) 0) ≡ bytes_from cs =
    take_at (bytes_from cs) (replicate (64 - length (bytes_from cs)) 0) (bytes_of v) (length_bytes cs n l ∙ u) in
    rw (
      low_back a b is_a is_b,
      high_back a b is_a is_b,
      low_back c d isC isD,
      high_back c d isC isD,
      low_back f g isF isG,
      high_back f g isF isG,
      w,
      text_back cs n l e₆,
    )

-- for any digits of the size
digits_text : (v n : ℕ) (t : List ℕ) → n ≡ bytes_of v → length t ≡ 6 + 2 * n → all_digits t ≡ true → text_of (digest_from v t) ≡ 84 ∷ 49 ∷ t
digits_text v n [] u l e = absurd (omega arith)
digits_text v n (a ∷ []) u l e = absurd (omega arith)
digits_text v n (a ∷ b ∷ []) u l e = absurd (omega arith)
digits_text v n (a ∷ b ∷ c ∷ []) u l e = absurd (omega arith)
digits_text v n (a ∷ b ∷ c ∷ d ∷ []) u l e = absurd (omega arith)
digits_text v n (a ∷ b ∷ c ∷ d ∷ f ∷ []) u l e = absurd (omega arith)
digits_text v n (a ∷ b ∷ c ∷ d ∷ f ∷ g ∷ cs) u l e = spread_text v n a b c d f g cs u (omega arith) e

-- a text that begins `T1` is `T1` and the rest
begins_split : (s : List ℕ) → 2 ≤ length s → begins_t1 s ≡ true → s ≡ 84 ∷ 49 ∷ drop 2 s
begins_split [] h e = absurd (omega arith)
begins_split (a ∷ []) h e = absurd (omega arith)
begins_split (a ∷ b ∷ cs) h e =
    let p = and_both (eqb a 84) (eqb b 49) e in
    rw (eqb-true a 84 p.0, eqb-true b 49 p.1)

-- the byte of two of them is one
pair_small : (t : List ℕ) (l h : ℕ) → all_digits t ≡ true → l < length t → h < length t → byte_at t l h < 256
pair_small t l h e p q = byte_small (get_or t l 0) (get_or t h 0) (digits_at t l e p) (digits_at t h e q)

-- each byte that digits give is one
bytes_small : (cs : List ℕ) → all_digits cs ≡ true → (i : ℕ) → get_or (bytes_from cs) i 0 < 256
bytes_small [] e i = omega arith
bytes_small (h ∷ []) e i = omega arith
bytes_small (h ∷ l ∷ cs) e zero =
    let f = digits_tail h (l ∷ cs) e in
    byte_small l h (digits_head l cs f) (digits_head h (l ∷ cs) e)
bytes_small (h ∷ l ∷ cs) e (suc i) = bytes_small cs (digits_tail l cs (digits_tail h (l ∷ cs) e)) i

-- what is left of digits alone is digits alone
digits_drop : (n : ℕ) (t : List ℕ) → all_digits t ≡ true → all_digits (drop n t) ≡ true
digits_drop zero t e = e
digits_drop (suc n) [] e = e
digits_drop (suc n) (c ∷ cs) e = digits_drop n cs (digits_tail c cs e)

module _ (v : ℕ) (s : List ℕ) (a : Accepted v s) where
  -- there are two digits for each byte after `T1`
  length_digits : length (drop 2 s) ≡ 6 + 2 * bytes_of v
  length_digits = simp length-drop (omega (arith, a.size))

  -- the text of the digest that was read is the text
  accepted_text : text_of (digest_from v (drop 2 s)) ≡ s
  accepted_text =
      digits_text v (bytes_of v) (drop 2 s) refl length_digits a.digits
      ∙ sym (begins_split s (omega (arith, a.size)) a.begins)

  -- the digest that was read is one that the port makes
  accepted_made : Made (digest_from v (drop 2 s))
  unfolding digest_from body_from
  accepted_made =
      let t = drop 2 s in
      let n = length_digits in
      let bytes = bytes_from (drop 6 t) in
      let l : length bytes ≡ bytes_of v = length_bytes (drop 6 t) (bytes_of v) (simp length-drop (omega arith)) in
      record {
        variant = a.variant;
        checksum = pair_small t 0 1 a.digits (omega arith) (omega arith);
        length_code = pair_small t 2 3 a.digits (omega arith) (omega arith);
        ratios = pair_small t 4 5 a.digits (omega arith) (omega arith);
        long = simp (length-append, length-replicate) (omega arith);
        bytes = padded_small bytes (64 - length bytes) (bytes_small (drop 6 t) (digits_drop 6 t a.digits));
        rest = λ (i : ℕ) (h : bytes_of v ≤ i). padded_rest bytes (64 - length bytes) i (omega arith);
      }

-- writing what was read gives the text
pub text_again : TextAgain
text_again v s d read = rw (← read_is v s d read) (accepted_text v s (accepted v s d read))

-- what was read is a digest that the port makes
pub read_made : ReadMade
read_made v s d read = rw (← read_is v s d read) (accepted_made v s (accepted v s d read))

-- of the variant that was asked for
pub read_variant : ReadVariant
unfolding digest_from
read_variant v s d read = ap (λ (x : Digest). x.variant) (sym (read_is v s d read))

-- two texts that are read to one digest are one text
pub one_text : OneText
one_text v w s t d p q = sym (text_again v s d p) ∙ text_again w t d q

-- writing what was read leaves the text at the destination's front
pub write_again : WriteAgain
unfolding write_of
write_again v s destination d p h =
    let m = read_made v s d p in
    rw (m.variant, text_again v s d p, le-ltb (length destination) (length s) h)
