-- Digits: a character that the reader takes for a digit is the one that the writer gives its value, and the other way round.
-- Assumes nothing.
use mathlib.Core.Path.{◌≡◌, refl, sym}
use mathlib.Core.Bool.{Bool, true, false, cond, and-false, true≢false}
use mathlib.Core.List.{List, [], ◌∷◌}
use Prim.Native.Nat.{ℕ, zero, suc, ◌+◌, ◌-◌, ◌*◌, ◌/◌, ◌%◌, ◌≤◌, ◌<◌}
use native.Mathlib.Nat.{not-suc-le-zero, le_of_suc-le-suc}
use native.Mathlib.Omega.{arith}
use Rattle.std.specs.Int.{w16, from_le_bytes}
use lib.Dec.{T, leb, ltb, eqb, leb→le, ltb→lt, eqb→eq}
use lib.ListN.{length, get_or, replicate}
use borrow.Author.Tests.{leb-true, le-leb, lt-leb}
use Rattle.params.specs.Words.{every}
use Rattle.params.proofs.Every.{below}
use Rattle.text.specs.Text.{digit_of}
use Rattle.parse.specs.Reading.{is_digit, value_of, byte_from, all_digits}
use Rattle.params.proofs.Tests.{and_both}

-- a digit's character is at most that of F
pub digit_most : (c : ℕ) → is_digit c ≡ true → c ≤ 70
unfolding is_digit
digit_most c d = go (leb c 57) refl (leb c 70) refl
  where
    go : (p : Bool) → leb c 57 ≡ p → (q : Bool) → leb c 70 ≡ q → c ≤ 70
    go true e q f = omega (arith, leb-true c 57 e)
    go false e true f = leb-true c 70 f
    go false e false f = absurd (true≢false (sym (simp (e, f, and-false) at d)))

-- what a test of the characters up to F shows of every digit
of_digits : (test : ℕ → Bool) → T (every (λ (c x : ℕ). cond (is_digit c) (test c) true) 0 (replicate 71 0)) → (c : ℕ)
    → is_digit c ≡ true → T (test c)
of_digits test t c d =
    let p : T (cond (is_digit c) (test c) true) = below (λ (c : ℕ). cond (is_digit c) (test c) true) 71 t c (omega (arith, digit_most c d)) in
    rw d at p

-- a digit's character is at least that of 0
pub digit_least : (c : ℕ) → is_digit c ≡ true → 48 ≤ c
unfolding is_digit
digit_least c d = leb→le 48 c (of_digits (λ (x : ℕ). leb 48 x) tt c d)

-- its value is below 16
pub value_small : (c : ℕ) → is_digit c ≡ true → value_of c < 16
unfolding is_digit value_of
value_small c d = ltb→lt (value_of c) 16 (of_digits (λ (x : ℕ). ltb (value_of x) 16) tt c d)

-- it is the character of its value
pub digit_value : (c : ℕ) → is_digit c ≡ true → digit_of (value_of c) ≡ c
unfolding is_digit value_of digit_of
digit_value c d = eqb→eq (digit_of (value_of c)) c (of_digits (λ (x : ℕ). eqb (digit_of (value_of x)) x) tt c d)

-- the character of a number below 16 is a digit
pub digit_good : (n : ℕ) → n < 16 → is_digit (digit_of n) ≡ true
unfolding is_digit digit_of
digit_good n h = truth (is_digit (digit_of n)) (below (λ (x : ℕ). is_digit (digit_of x)) 16 tt n h)
  where
    truth : (b : Bool) → T b → b ≡ true
    truth true t = refl
    truth false t = absurd t

-- and that number is its value
pub value_digit : (n : ℕ) → n < 16 → value_of (digit_of n) ≡ n
unfolding value_of digit_of
value_digit n h = eqb→eq (value_of (digit_of n)) n (below (λ (x : ℕ). eqb (value_of (digit_of x)) x) 16 tt n h)

-- up to 9 the value of a digit counts from the character of 0
pub value_low : (c : ℕ) → c ≤ 57 → c - 48 ≡ value_of c
unfolding value_of
value_low c h = rw (le-leb c 57 h)

-- past 9 it counts from that of A, which is 10
pub value_high : (c : ℕ) → 57 < c → c - 55 ≡ value_of c
unfolding value_of
value_high c h = rw (lt-leb c 57 h)

-- the byte of two digits is below 256
pub byte_small : (l h : ℕ) → is_digit l ≡ true → is_digit h ≡ true → byte_from l h < 256
unfolding byte_from
byte_small l h p q = omega (arith, value_small l p, value_small h q)

-- it is what the code makes of their values
pub byte_made : (l h x y : ℕ) → x ≡ value_of l → y ≡ value_of h → x + 16 * y ≡ byte_from l h
unfolding byte_from
byte_made l h x y p q = rw (p, q)

-- two characters, read as one number
pub both_is : (xs : List ℕ) → ((i : ℕ) → get_or xs i 0 < 256) → (n : ℕ) → n ≡ from_le_bytes w16 xs
    → (n % 256 ≡ get_or xs 0 0) × (n / 256 ≡ get_or xs 1 0)
both_is xs h n e = (omega (arith, h 0, h 1), omega (arith, h 0, h 1))

-- its low digit is written as the first of them
pub low_back : (l h : ℕ) → is_digit l ≡ true → is_digit h ≡ true → digit_of (byte_from l h % 16) ≡ l
unfolding byte_from
low_back l h p q =
    let a = value_small l p in
    let e : (value_of l + 16 * value_of h) % 16 ≡ value_of l = omega arith in
    rw e (digit_value l p)

-- and its high digit as the second
pub high_back : (l h : ℕ) → is_digit l ≡ true → is_digit h ≡ true → digit_of (byte_from l h / 16) ≡ h
unfolding byte_from
high_back l h p q =
    let a = value_small l p in
    let e : (value_of l + 16 * value_of h) / 16 ≡ value_of h = omega arith in
    rw e (digit_value h q)

-- a byte comes back from the characters of its digits
pub byte_back : (b : ℕ) → b < 256 → byte_from (digit_of (b % 16)) (digit_of (b / 16)) ≡ b
unfolding byte_from
byte_back b h = rw (value_digit (b % 16) (omega arith), value_digit (b / 16) (omega arith)) (omega arith)

-- where all are digits the first is one
pub digits_head : (c : ℕ) (cs : List ℕ) → all_digits (c ∷ cs) ≡ true → is_digit c ≡ true
digits_head c cs e = (and_both (is_digit c) (all_digits cs) e).0

-- so are all after it
pub digits_tail : (c : ℕ) (cs : List ℕ) → all_digits (c ∷ cs) ≡ true → all_digits cs ≡ true
digits_tail c cs e = (and_both (is_digit c) (all_digits cs) e).1

-- so is each
pub digits_at : (t : List ℕ) (i : ℕ) → all_digits t ≡ true → i < length t → is_digit (get_or t i 0) ≡ true
digits_at [] i e h = absurd (not-suc-le-zero h)
digits_at (c ∷ cs) zero e h = digits_head c cs e
digits_at (c ∷ cs) (suc i) e h = digits_at cs i (digits_tail c cs e) (le_of_suc-le-suc h)
