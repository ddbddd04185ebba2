-- The rows in which the writer makes the body's digits: each row filled place by place, and the two stored in turn.
-- Assumes nothing.
use mathlib.Core.Path.{◌≡◌, refl, sym, ◌∙◌, ap}
use mathlib.Core.List.{List, [], ◌∷◌, ◌++◌, map}
use Prim.Native.Nat.{ℕ, suc, ◌+◌, ◌-◌, ◌*◌, ◌/◌, ◌%◌, ◌≤◌, ◌<◌}
use native.Mathlib.Numerals.{add-one}
use native.Mathlib.Omega.{arith}
use lib.ListN.{length, get_or, set, take, replicate, length-map}
use Rattle.std.proofs.lemmas.List.{take_all}
use lib.Seq.{sets, length-sets, take-suc, length-take-le, set_at, append_snoc, take_at}
use Rattle.text.specs.declared.Rows.{Rows}
use Rattle.text.specs.Text.{digit_of, body_text}
use Rattle.text.specs.Apart.{rows_of, in_turn}
use Rattle.text.proofs.Writing.{sets_append}

-- a function of each of two rows' entries is that of the first row's, and then that of the second's
map-append : (f : ℕ → ℕ) (xs ys : List ℕ) → map f (xs ++ ys) ≡ map f xs ++ map f ys
map-append f [] ys = refl
map-append f (x ∷ xs) ys = ap (λ (l : List ℕ). f x ∷ l) (map-append f xs ys)

-- a row that holds a function of the first i bytes, and 0 after them
abbrev pub Row : (ℕ → ℕ) → List ℕ → ℕ → List ℕ → Type 0
Row f bytes i row = row ≡ map f (take i bytes) ++ replicate (64 - i) 0

-- holds, with one more store, that of the next
row_more : (f : ℕ → ℕ) (bytes row : List ℕ) (i x : ℕ) → Row f bytes i row → i < length bytes → length bytes ≤ 64 → x ≡ f (get_or bytes i 0)
    → Row f bytes (i + 1) (set row i x)
row_more f bytes row i x p h b e =
    let front = map f (take i bytes) in
    let n : length front ≡ i = length-map (take i bytes) f ∙ length-take-le i bytes (omega arith) in
    let k : 64 - i ≡ suc (64 - suc i) = omega arith in
    rw (p, k, add-one i, take-suc bytes i 0 h, map-append f (take i bytes) (get_or bytes i 0 ∷ []), ← e)
    (set_at front 0 (replicate (64 - suc i) 0) x i n ∙ sym (append_snoc front x (replicate (64 - suc i) 0)))

-- what the loop over the bytes keeps
pub record Rowed (bytes : List ℕ) (i : ℕ) (high low : List ℕ) : Type 0 where
  pub above : Row (λ (b : ℕ). digit_of (b / 16)) bytes i high
  pub below : Row (λ (b : ℕ). digit_of (b % 16)) bytes i low

-- at the start all is 0
pub rowed_none : (bytes : List ℕ) → Rowed bytes 0 (replicate 64 0) (replicate 64 0)
rowed_none bytes = record { above = refl; below = refl }

-- a turn stores the two digits of the next byte
pub rowed_more : (bytes high low : List ℕ) (i x y : ℕ) → Rowed bytes i high low → i < length bytes → length bytes ≤ 64
    → x ≡ digit_of (get_or bytes i 0 / 16) → y ≡ digit_of (get_or bytes i 0 % 16) → Rowed bytes (i + 1) (set high i x) (set low i y)
rowed_more bytes high low i x y p h k e f =
    record {
      above = row_more (λ (b : ℕ). digit_of (b / 16)) bytes high i x p.above h k e;
      below = row_more (λ (b : ℕ). digit_of (b % 16)) bytes low i y p.below h k f;
    }

-- at the end they are the rows of all bytes
pub rowed_all : (bytes high low : List ℕ) (i : ℕ) → Rowed bytes i high low → i ≡ length bytes
    → record { high = high; low = low } ≡ rows_of bytes
unfolding rows_of
rowed_all bytes high low i p e = rw (p.above, p.below, e, take_all (length bytes) bytes (omega arith))

-- two rows of one length in turn, each with one more, are they in turn and then the two
turn_more : (xs ys : List ℕ) (x y : ℕ) → length xs ≡ length ys
    → in_turn (xs ++ (x ∷ [])) (ys ++ (y ∷ [])) ≡ in_turn xs ys ++ (x ∷ y ∷ [])
turn_more [] [] x y e = refl
turn_more [] (b ∷ ys) x y e = absurd (omega arith)
turn_more (a ∷ xs) [] x y e = absurd (omega arith)
turn_more (a ∷ xs) (b ∷ ys) x y e = ap (λ (l : List ℕ). a ∷ b ∷ l) (turn_more xs ys x y (omega arith))

-- they are twice as long
length_turn : (xs ys : List ℕ) → length xs ≡ length ys → length (in_turn xs ys) ≡ 2 * length xs
length_turn [] ys e = refl
length_turn (a ∷ xs) [] e = absurd (omega arith)
length_turn (a ∷ xs) (b ∷ ys) e = omega (arith, length_turn xs ys (omega arith))

-- what the loop over the pairs keeps: the first i pairs are stored
pub record Puts (before high low : List ℕ) (i : ℕ) (destination : List ℕ) : Type 0 where
  pub long : length destination ≡ length before
  pub holds : destination ≡ sets before 8 (in_turn (take i high) (take i low))

-- at the start nothing is
pub puts_none : (destination high low : List ℕ) → Puts destination high low 0 destination
puts_none destination high low = record { long = refl; holds = refl }

-- a turn stores the next pair
pub puts_more : (before high low destination : List ℕ) (i : ℕ) → Puts before high low i destination → i < length high
    → length low ≡ length high
    → Puts before high low (i + 1) (set (set destination (8 + 2 * i) (get_or high i 0)) (9 + 2 * i) (get_or low i 0))
puts_more before high low destination i p h l =
    let n : length (take i high) ≡ i = length-take-le i high (omega arith) in
    let k : length (take i low) ≡ i = length-take-le i low (omega arith) in
    let front = in_turn (take i high) (take i low) in
    let f : length front ≡ 2 * i = length_turn (take i high) (take i low) (n ∙ sym k) ∙ ap (λ (j : ℕ). 2 * j) n in
    let e : 9 + 2 * i ≡ suc (8 + 2 * i) = omega arith in
    let w : set (set destination (8 + 2 * i) (get_or high i 0)) (9 + 2 * i) (get_or low i 0)
    ≡ sets before 8 (in_turn (take (i + 1) high) (take (i + 1) low)) =
    rw (
      p.holds,
      e,
      add-one i,
      take-suc high i 0 (omega arith),
      take-suc low i 0 (omega arith),
      turn_more (take i high) (take i low) (get_or high i 0) (get_or low i 0) (n ∙ sym k),
      sets_append front,
      f,
    ) in
    record { long = rw (w, length-sets); holds = w }

-- at the end all are
pub puts_all : (before high low destination : List ℕ) (i : ℕ) → Puts before high low i destination → i ≡ length high
    → length low ≡ length high → destination ≡ sets before 8 (in_turn high low)
puts_all before high low destination i p e l =
    let h : take i high ≡ high = take_all i high (omega arith) in
    let k : take i low ≡ low = take_all i low (omega arith) in
    rw (h, k) at p.holds

-- the rows in turn are the text
turn_text : (bs : List ℕ) → in_turn (map (λ (b : ℕ). digit_of (b / 16)) bs) (map (λ (b : ℕ). digit_of (b % 16)) bs) ≡ body_text bs
turn_text [] = refl
turn_text (b ∷ bs) = ap (λ (l : List ℕ). digit_of (b / 16) ∷ digit_of (b % 16) ∷ l) (turn_text bs)

-- so what is stored of the rows of a row of bytes is their text
pub rows_stored : (destination l bs : List ℕ) (r : Rows) → r ≡ rows_of bs
    → l ≡ sets destination 8 (in_turn (take (length bs) r.high) (take (length bs) r.low)) → l ≡ sets destination 8 (body_text bs)
unfolding rows_of
rows_stored destination l bs r e q =
    let high = map (λ (b : ℕ). digit_of (b / 16)) bs in
    let low = map (λ (b : ℕ). digit_of (b % 16)) bs in
    let zeros : List ℕ = replicate (64 - length bs) 0 in
    q ∙ rw (
      e,
      take_at high zeros (length bs) (length-map bs (λ (b : ℕ). digit_of (b / 16))),
      take_at low zeros (length bs) (length-map bs (λ (b : ℕ). digit_of (b % 16))),
      turn_text bs,
    )
