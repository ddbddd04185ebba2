-- The laws that the reader's functions cite: the loops that test the digits, the loops that make the body, and each answer.
-- Assumes nothing.
use mathlib.Core.Path.{◌≡◌, refl, sym, ◌∙◌, ap, ap₂}
use mathlib.Core.Bool.{Bool, true, false, ◌&&◌, and_assoc, and-true, true≢false}
use mathlib.Core.List.{List, [], ◌∷◌, ◌++◌}
use Prim.Native.Nat.{ℕ, zero, suc, ◌+◌, ◌-◌, ◌*◌, ◌/◌, ◌≤◌, ◌<◌}
use native.Mathlib.Numerals.{add-one}
use native.Mathlib.Omega.{arith}
use lib.ListN.{length, get_or, set, take, drop, replicate, length-drop, length-append, drop_of_length-le, take-append-drop}
use lib.Seq.{take-suc, length-take-le, take_all, take-add, take-take}
use lib.Seq.{drop-cons, drop-drop, take_at, drop_at}
use borrow.Author.Tests.{eq-eqb, ne_eqb}
use Rattle.std.specs.Prelude.{Ok, Err}
use Rattle.hash.specs.declared.Digest.{Digest}
use Rattle.params.specs.declared.Refusal.TheVariants.{UnknownVariant, WrongSize, WrongCharacter}
use Rattle.params.specs.declared.Variant.{Variant}
use Rattle.params.specs.declared.Variant.TheVariants.{Short, Normal, Long}
use Rattle.params.specs.Variants.{known, buckets}
use Rattle.params.proofs.Variants.{known_buckets}
use Rattle.text.specs.Text.{text_size}
use Rattle.body.specs.Body.{bytes_of}
use Rattle.parse.specs.Reading.{is_digit, all_digits, byte_at, byte_from, bytes_from, body_from}
use Rattle.parse.specs.Reading.{digest_from, digits_of, begins_t1, read_of}
use Rattle.params.proofs.Tests.{and_both}
use Rattle.std.specs.Simd.{first_chunks}
use Rattle.std.proofs.lemmas.List.{get_or-drop, get_or-take, length-set, append_assoc}
use Rattle.parse.proofs.Digits.{digits_at}
use Rattle.std.proofs.Math.Seq.{set-append_seam}

-- what the test's loop keeps: with what it found so far, the rest decides
abbrev pub Tested : List ℕ → ℕ → Bool → Type 0
Tested t i good = (good && all_digits (drop i t)) ≡ all_digits t

-- a turn tests the next character
pub tested_more : (t : List ℕ) (i : ℕ) (good b : Bool) → Tested t i good → i < length t → b ≡ is_digit (get_or t i 0)
    → Tested t (i + 1) (good && b)
tested_more t i good b q h e =
    let next : all_digits (drop i t) ≡ (b && all_digits (drop (i + 1) t)) = rw (e, add-one i, drop-cons t i 0 h) in
    and_assoc good b (all_digits (drop (i + 1) t)) ∙ rw (← next) q

-- at the end nothing is left
pub tested_all : (t : List ℕ) (i : ℕ) (good : Bool) → Tested t i good → length t ≤ i → good ≡ all_digits t
tested_all t i good q h = sym (and-true good) ∙ rw (drop_of_length-le t h) at q

-- two rows are digits alone where each is
digits_append : (xs ys : List ℕ) → all_digits (xs ++ ys) ≡ (all_digits xs && all_digits ys)
digits_append [] ys = refl
digits_append (x ∷ xs) ys = rw (digits_append xs ys) (sym (and_assoc (is_digit x) (all_digits xs) (all_digits ys)))

-- so is a row before a place and from it on
digits_split : (t : List ℕ) (n : ℕ) → all_digits t ≡ (all_digits (take n t) && all_digits (drop n t))
digits_split t n = ap all_digits (sym (take-append-drop n t)) ∙ digits_append (take n t) (drop n t)

-- where all are digits, those before a place are
digits_take : (t : List ℕ) (n : ℕ) → all_digits t ≡ true → all_digits (take n t) ≡ true
digits_take t n e = (and_both (all_digits (take n t)) (all_digits (drop n t)) (sym (digits_split t n) ∙ e)).0

-- so are those from it on
digits_drop : (t : List ℕ) (n : ℕ) → all_digits t ≡ true → all_digits (drop n t) ≡ true
digits_drop t n e = (and_both (all_digits (take n t)) (all_digits (drop n t)) (sym (digits_split t n) ∙ e)).1

-- and those between two
pub digits_part : (t : List ℕ) (n k : ℕ) → all_digits t ≡ true → all_digits (take k (drop n t)) ≡ true
digits_part t n k e = digits_take (drop n t) k (digits_drop t n e)

-- what the loop over blocks of characters keeps: r is what is left of them, and those before it are digits alone
pub record Front (t r : List ℕ) : Type 0 where
  pub within : length r ≤ length t
  pub left : r ≡ drop (length t - length r) t
  pub digits : all_digits (take (length t - length r) t) ≡ true

-- at the start all are left
pub front_none : (t r : List ℕ) → r ≡ t → Front t r
front_none t r e =
    let z : length t - length t ≡ 0 = omega arith in
    rw e record { within = omega arith; left = rw z; digits = rw z }

-- a turn tests the next sixteen
pub front_more : (t r x l : List ℕ) → Front t r → r ≡ x ++ l → length x ≡ 16 → all_digits x ≡ true → Front t l
front_more t r x l p e k d =
    let n = length t - length r in
    let w = p.within in
    let a : length r ≡ 16 + length l = rw e (length-append x l ∙ ap (λ (m : ℕ). m + length l) k) in
    let f : length t - length l ≡ n + 16 = omega arith in
    let rest : drop n t ≡ x ++ l = sym p.left ∙ e in
    let block : take 16 (drop n t) ≡ x = rw rest (take_at x l 16 k) in
    record {
      within = omega arith;
      left = rw (f, ← drop-drop 16 n t, rest) (sym (drop_at x l 16 k));
      digits = rw (f, take-add n 16 t, digits_append (take n t) (take 16 (drop n t)), p.digits, block) d;
    }

-- a block that is not digits alone decides
pub front_fail : (t r x l : List ℕ) → Front t r → r ≡ x ++ l → all_digits x ≡ false → all_digits t ≡ false
front_fail t r x l p e n = go (all_digits t) refl
  where
    go : (a : Bool) → all_digits t ≡ a → all_digits t ≡ false
    go true d =
        let rest : all_digits (x ++ l) ≡ true = rw (sym p.left ∙ e) at (digits_drop t (length t - length r) d) in
        absurd (true≢false (sym (and_both (all_digits x) (all_digits l) (rw digits_append at rest)).0 ∙ n))
    go false d = d

-- at the end fewer than sixteen are left, and the last sixteen decide
pub front_all : (t r : List ℕ) (size : ℕ) (b : Bool) → Front t r → size ≡ 16 → length r < size → 16 ≤ length t
    → b ≡ all_digits (take (length t - (length t - 16)) (drop (length t - 16) t)) → all_digits t ≡ b
front_all t r size b p e h k q =
    let w = p.within in
    let n = length t - 16 in
    let before : all_digits (take n t) ≡ true = rw (take-take n (length t - length r) t (omega arith)) at (digits_take (take (length t - length r) t) n p.digits) in
    let last : take (length t - n) (drop n t) ≡ drop n t = take_all (length t - n) (drop n t) (simp length-drop (omega arith)) in
    digits_split t n ∙ rw before (sym (q ∙ ap all_digits last))

-- digits two by two give half as many bytes
pub length_bytes : (cs : List ℕ) (n : ℕ) → length cs ≡ 2 * n → length (bytes_from cs) ≡ n
length_bytes [] n e = omega arith
length_bytes (h ∷ []) n e = absurd (omega arith)
length_bytes (h ∷ l ∷ cs) zero e = absurd (omega arith)
length_bytes (h ∷ l ∷ cs) (suc n) e = ap suc (length_bytes cs n (omega arith))

-- the byte at place i comes of the digits at 2i and after it
bytes_at : (cs : List ℕ) (i : ℕ) → 2 * i + 2 ≤ length cs → get_or (bytes_from cs) i 0 ≡ byte_at cs (2 * i + 1) (2 * i)
bytes_at [] i h = absurd (omega arith)
bytes_at (a ∷ []) i h = absurd (omega arith)
bytes_at (a ∷ b ∷ cs) zero h = refl
bytes_at (a ∷ b ∷ cs) (suc i) h =
    let e : 2 * suc i ≡ suc (suc (2 * i)) = omega arith in
    let f : 2 * suc i + 1 ≡ suc (suc (2 * i + 1)) = omega arith in
    rw (f, e) (bytes_at cs i (omega arith))

-- what stands in a pair of characters, cut out of the whole
pair_at : (c i j : ℕ) (xs : List ℕ) → i < c → j < 2 → get_or (get_or (first_chunks 2 c xs) i []) j 0 ≡ get_or xs (2 * i + j) 0
pair_at zero i j xs h k = absurd (omega arith)
pair_at (suc c) zero j xs h k =
    let e : j ≡ 2 * 0 + j = omega arith in
    get_or-take 2 xs j 0 k ∙ ap (λ (n : ℕ). get_or xs n 0) e
pair_at (suc c) (suc i) j xs h k =
    let e : 2 + (2 * i + j) ≡ 2 * suc i + j = omega arith in
    pair_at c i j (drop 2 xs) (omega arith) k ∙ get_or-drop 2 xs (2 * i + j) 0 ∙ ap (λ (n : ℕ). get_or xs n 0) e

-- the pairs of the characters after the head
module _ (t : List ℕ) (m : ℕ) (ps : List (List ℕ)) (long : length t ≡ 6 + 2 * m)
    (front : ps ≡ first_chunks 2 (length (take (length t - 6) (drop 6 t)) / 2) (take (length t - 6) (drop 6 t)))
  where
    -- what stands in one
    pair_of : (i j : ℕ) → i < m → j < 2 → get_or (get_or ps i []) j 0 ≡ get_or t (6 + (2 * i + j)) 0
    pair_of i j h k =
        let rest : take (length t - 6) (drop 6 t) ≡ drop 6 t = take_all (length t - 6) (drop 6 t) (simp length-drop (omega arith)) in
        let half : length (drop 6 t) / 2 ≡ m = simp length-drop (omega arith) in
        let all : ps ≡ first_chunks 2 m (drop 6 t) = rw (rest, half) at front in
        rw all (pair_at m i j (drop 6 t) h k ∙ get_or-drop 6 t (2 * i + j) 0)

    -- it is a digit where all are
    pub pair_digit : (i j : ℕ) → i < m → j < 2 → all_digits t ≡ true → is_digit (get_or (get_or ps i []) j 0) ≡ true
    pair_digit i j h k d = rw (pair_of i j h k) (digits_at t (6 + (2 * i + j)) d (omega arith))

    -- the byte of a pair
    pub pair_byte : (i b : ℕ) → i < m → b ≡ byte_at (get_or ps i []) 1 0 → b ≡ byte_at t (6 + (2 * i + 1)) (6 + (2 * i + 0))
    pair_byte i b h e = e ∙ ap₂ byte_from (pair_of i 1 h (omega arith)) (pair_of i 0 h (omega arith))

-- what the body's loop keeps: the first i bytes are there, and 0 after them
pub record Bodied (t : List ℕ) (i : ℕ) (body : List ℕ) : Type 0 where
  pub long : length body ≡ 64
  pub holds : body ≡ take i (bytes_from (drop 6 t)) ++ replicate (64 - length (take i (bytes_from (drop 6 t)))) 0

-- at the start all is 0
pub bodied_none : (t : List ℕ) → Bodied t 0 (replicate 64 0)
bodied_none t = record { long = refl; holds = refl }

module _ (t : List ℕ) (m : ℕ) (long : length t ≡ 6 + 2 * m) where
  -- the digits after the head give m bytes
  length_part : length (bytes_from (drop 6 t)) ≡ m
  length_part = length_bytes (drop 6 t) m (simp length-drop (omega arith))

  -- a turn stores the next byte
  pub bodied_more : (body : List ℕ) (i b : ℕ) → Bodied t i body → i < m → m ≤ 64 → b ≡ byte_at t (6 + (2 * i + 1)) (6 + (2 * i + 0))
      → Bodied t (i + 1) (set body i b)
  bodied_more body i b p h v e =
      let bytes = bytes_from (drop 6 t) in
      let all = length_part in
      let front = take i bytes in
      let k = 64 - (i + 1) in
      let f : length front ≡ i = length-take-le i bytes (omega arith) in
      let room : 64 - length front ≡ suc k = omega arith in
      let low : get_or (drop 6 t) (2 * i + 1) 0 ≡ get_or t (6 + (2 * i + 1)) 0 = get_or-drop 6 t (2 * i + 1) 0 in
      let high : get_or (drop 6 t) (2 * i) 0 ≡ get_or t (6 + (2 * i + 0)) 0 = get_or-drop 6 t (2 * i) 0 ∙ ap (λ (j : ℕ). get_or t j 0) (omega arith) in
      let at : get_or bytes i 0 ≡ b = bytes_at (drop 6 t) i (simp length-drop (omega arith)) ∙ rw (low, high) (sym e) in
      let next : take (i + 1) bytes ≡ front ++ (b ∷ []) = rw (add-one i, take-suc bytes i 0 (omega arith), at) in
      let long : length (take (i + 1) bytes) ≡ i + 1 = length-take-le (i + 1) bytes (omega arith) in
      let before : body ≡ front ++ 0 ∷ replicate k 0 = p.holds ∙ rw room in
      let stored : set body i b ≡ front ++ b ∷ replicate k 0 =
      rw before (ap (λ (j : ℕ). set (front ++ 0 ∷ replicate k 0) j b) (sym f) ∙ set-append_seam front 0 (replicate k 0) b) in
      record {
        long = rw length-set p.long;
        holds = stored ∙ rw (long, next) (sym (append_assoc front (b ∷ []) (replicate k 0)));
      }

  -- at the end it is the body
  pub bodied_all : (body : List ℕ) (i : ℕ) → Bodied t i body → m ≤ i → body ≡ body_from t
  unfolding body_from
  bodied_all body i p h =
      let n = length_part in
      p.holds ∙ rw (take_all i (bytes_from (drop 6 t)) (omega arith))

-- the digits' answers
pub digits_9 : (v : ℕ) (t : List ℕ) → all_digits t ≡ false → digits_of v t ≡ Err WrongCharacter
unfolding digits_of
digits_9 v t a = rw a

pub digits_0 : (v : ℕ) (t : List ℕ) → all_digits t ≡ true → digits_of v t ≡ Ok (digest_from v t)
unfolding digits_of
digits_0 v t a = rw a

-- a known variant has eight bytes and more
pub least_eight : (v : Variant) → 8 ≤ bytes_of (buckets v)
least_eight Short = omega arith
least_eight Normal = omega arith
least_eight Long = omega arith

module _ (v : ℕ) (s : List ℕ) where
  -- the answer 6
  pub read_6 : known v ≡ false → read_of v s ≡ Err UnknownVariant
  unfolding read_of
  read_6 k = rw k

  module _ (k : known v ≡ true) where
    -- the answer 8
    pub read_8 : (length s ≡ text_size v → ⊥) → read_of v s ≡ Err WrongSize
    unfolding read_of
    read_8 l = rw (k, ne_eqb (length s) (text_size v) l)

    module _ (l : length s ≡ text_size v) where
      -- the answer 9, of the first two characters
      pub read_9 : begins_t1 s ≡ false → read_of v s ≡ Err WrongCharacter
      unfolding read_of
      read_9 t = rw (k, eq-eqb (length s) (text_size v) l, t)

      -- the digits' own answer
      pub read_0 : begins_t1 s ≡ true → read_of v s ≡ digits_of v (drop 2 s)
      unfolding read_of
      read_0 t = rw (k, eq-eqb (length s) (text_size v) l, t)

-- those of a text that begins `T1`, by whether what is left is digits alone
module _ (v : ℕ) (s : List ℕ) (w : Variant) (k : v ≡ buckets w) (l : length s ≡ text_size (buckets w))
    (t : get_or s 0 0 ≡ 84) (o : get_or s 1 0 ≡ 49)
  where
    left : take (length s - 2) (drop 2 s) ≡ drop 2 s
    left = take_all (length s - 2) (drop 2 s) (simp length-drop (omega arith))

    read_left : read_of v s ≡ digits_of v (drop 2 s)
    read_left =
        let known_v : known v ≡ true = rw k (known_buckets w) in
        let long : length s ≡ text_size v = rw k l in
        let begins : begins_t1 s ≡ true = rw (t, o) in
        read_0 v s known_v long begins

    pub left_9 : all_digits (take (length s - 2) (drop 2 s)) ≡ false → Err WrongCharacter ≡ read_of v s
    left_9 f =
        let d : all_digits (drop 2 s) ≡ false = rw left at f in
        sym (read_left ∙ digits_9 v (drop 2 s) d)

    pub left_0 : (cs : List ℕ) → cs ≡ take (length s - 2) (drop 2 s) → all_digits cs ≡ true → (r : Digest)
        → r ≡ digest_from (buckets w) cs → Ok r ≡ read_of v s
    left_0 cs e f r q =
        let g : cs ≡ drop 2 s = e ∙ left in
        let d : all_digits (drop 2 s) ≡ true = rw g at f in
        let h : r ≡ digest_from v (drop 2 s) = q ∙ rw (g, k) in
        sym (read_left ∙ digits_0 v (drop 2 s) d ∙ ap Ok (sym h))

-- what the check of `read_text` takes from here
pub ruleset read_answers = (read_6, read_8, read_9, read_0, known_buckets)
