-- What is counted of the bytes so far, from byte to byte and from read to read.
-- Assumes nothing.
use Rattle.std.proofs.Common.{◌≡◌, ℕ, suc, ◌+◌, ◌%◌, ◌^◌, ◌<◌, ◌≤◌, Bool, true, false, cond, eqb, ltb, List, [], ◌∷◌, ◌++◌, length, take, set, ℤ, pos, sym, refl, ap, ◌∙◌, append-nil, arith, length-append, length-set, take-suc-set, ltb-false, ltb-true, le-ltb, lt-ltb, ne_eqb}
use Rattle.replay_verdict.specs.declared.Verdict.{Verdict}
use Rattle.replay_verdict.specs.declared.Verdict.TheVariants.{Same, Another, Malformed}
use Rattle.replay_verdict.specs.Line.{verdict_of, verdict_in}
use Rattle.reading.specs.Reading.{Arrived, none, more}
use Rattle.replay.specs.declared.Tally.{Tally}
use Rattle.replay.specs.Lines.{lines_from, rest_from, wrong_by, wrong_line, wrong_in, Kept, Counted, Goes, Turned}

-- the lines of joined bytes are those of the first, then those of the second, which go on where the first left off
lines_cond : (t : Bool) (begun longer xs ys : List ℕ)
    → lines_from [] (xs ++ ys) ≡ lines_from [] xs ++ lines_from (rest_from [] xs) ys
    → lines_from longer (xs ++ ys) ≡ lines_from longer xs ++ lines_from (rest_from longer xs) ys
    → cond t (begun ∷ lines_from [] (xs ++ ys)) (lines_from longer (xs ++ ys))
    ≡ cond t (begun ∷ lines_from [] xs) (lines_from longer xs) ++ lines_from (cond t (rest_from [] xs) (rest_from longer xs)) ys
lines_cond true begun longer xs ys a b = ap (λ (ls : List (List ℕ)). begun ∷ ls) a
lines_cond false begun longer xs ys a b = b

lines_joined : (begun xs ys : List ℕ) → lines_from begun (xs ++ ys) ≡ lines_from begun xs ++ lines_from (rest_from begun xs) ys
unfolding lines_from rest_from
lines_joined begun [] ys = refl
lines_joined begun (x ∷ xs) ys =
    lines_cond (eqb x 10) begun (begun ++ (x ∷ [])) xs ys (lines_joined [] xs ys) (lines_joined (begun ++ (x ∷ [])) xs ys)

-- and so is what stands after the last of them
rest_cond : (t : Bool) (longer xs ys : List ℕ) → rest_from [] (xs ++ ys) ≡ rest_from (rest_from [] xs) ys
    → rest_from longer (xs ++ ys) ≡ rest_from (rest_from longer xs) ys
    → cond t (rest_from [] (xs ++ ys)) (rest_from longer (xs ++ ys)) ≡ rest_from (cond t (rest_from [] xs) (rest_from longer xs)) ys
rest_cond true longer xs ys a b = a
rest_cond false longer xs ys a b = b

rest_joined : (begun xs ys : List ℕ) → rest_from begun (xs ++ ys) ≡ rest_from (rest_from begun xs) ys
unfolding rest_from
rest_joined begun [] ys = refl
rest_joined begun (x ∷ xs) ys =
    rest_cond (eqb x 10) (begun ++ (x ∷ [])) xs ys (rest_joined [] xs ys) (rest_joined (begun ++ (x ∷ [])) xs ys)

-- the wrong ones of two lists of lines are counted together
wrong_joined : (room : ℕ) (xs ys : List (List ℕ)) → wrong_in room (xs ++ ys) ≡ wrong_in room xs + wrong_in room ys
unfolding wrong_in
wrong_joined room [] ys = omega arith
wrong_joined room (x ∷ xs) ys = omega (arith, wrong_joined room xs ys)

-- a line feed ends the line that has begun
fed_lines : (line : List ℕ) → lines_from line (10 ∷ []) ≡ line ∷ []
unfolding lines_from
fed_lines line = refl

fed_rest : (line : List ℕ) → rest_from line (10 ∷ []) ≡ []
unfolding rest_from
fed_rest line = refl

-- any other character goes on with it
on_lines : (line : List ℕ) (b : ℕ) → (b ≡ 10 → ⊥) → lines_from line (b ∷ []) ≡ []
unfolding lines_from
on_lines line b h = rw (ne_eqb b 10 h) refl

on_rest : (line : List ℕ) (b : ℕ) → (b ≡ 10 → ⊥) → rest_from line (b ∷ []) ≡ line ++ (b ∷ [])
unfolding rest_from
on_rest line b h = rw (ne_eqb b 10 h) refl

-- the verdict on what a room keeps is that on the line
long_at : (t : Bool) (room line : List ℕ) (size : ℕ) → ltb (length room) (length line) ≡ t → Kept room size line
    → verdict_in room size ≡ cond t Malformed (verdict_of line)
unfolding verdict_in
long_at true room line size e k = rw (lt-ltb (length room) size (k.long (ltb-true (length room) (length line) e))) refl
long_at false room line size e k =
    let h : length line ≤ length room = ltb-false (length room) (length line) e in
    rw (le-ltb (length room) size (omega (arith, k.fits h, h)), k.is h) refl

wrong_of : (room line : List ℕ) (size : ℕ) (v : Verdict) → Kept room size line → v ≡ verdict_in room size
    → wrong_line (length room) line ≡ wrong_by v
unfolding wrong_line
wrong_of room line size v k e = ap wrong_by (sym (e ∙ long_at (ltb (length room) (length line)) room line size refl k))

-- a room keeps an empty line
kept_none : (room : List ℕ) → Kept room 0 []
kept_none room = record { fits = λ _. refl; is = λ _. refl; long = λ h. absurd (omega arith) }

-- before the first byte
pub counted_none : (room : List ℕ) → Counted [] (record { lines = 0; wrong = 0; line = room; size = 0 })
unfolding lines_from rest_from wrong_in
counted_none room = record { lines = omega arith; wrong = omega arith; rest = kept_none room }

-- a verdict that is not the same is wrong
other_wrong : (v : Verdict) → (v ≡ Same → ⊥) → wrong_by v ≡ 1
other_wrong Same n = absurd (n refl)
other_wrong Another n = refl
other_wrong Malformed n = refl

-- a line that has ended
line_ended : (t : Tally) (v : Verdict) (wrong : ℕ) → v ≡ verdict_in t.line t.size
    → ((n : ℕ) → t.wrong ≡ n % 2 ^ 64 → wrong ≡ (n + wrong_by v) % 2 ^ 64)
    → Goes t (10 ∷ []) (record { lines = (t.lines + 1) % 2 ^ 64; wrong = wrong; line = t.line; size = 0 })
unfolding wrong_in
line_ended t v wrong e w =
    record {
      goes = λ (before : List ℕ) (p : Counted before t).
          let room : List ℕ = t.line in
          let line : List ℕ = rest_from [] before in
          let all : lines_from [] (before ++ (10 ∷ [])) ≡ lines_from [] before ++ (line ∷ [])
          = lines_joined [] before (10 ∷ []) ∙ ap (λ (ls : List (List ℕ)). lines_from [] before ++ ls) (fed_lines line) in
          let rest : rest_from [] (before ++ (10 ∷ [])) ≡ [] = rest_joined [] before (10 ∷ []) ∙ fed_rest line in
          record {
            lines = rw all (omega (arith, p.lines, length-append (lines_from [] before) (line ∷ [])));
            wrong = rw all (omega (
              arith,
              w (wrong_in (length room) (lines_from [] before)) p.wrong,
              wrong_of room line t.size v p.rest e,
              wrong_joined (length room) (lines_from [] before) (line ∷ []),
            ));
            rest = rw rest (kept_none room);
          };
    }

-- a line with the same answer
pub line_same : (t u : Tally) (v : Verdict) → v ≡ verdict_in t.line t.size → v ≡ Same
    → u ≡ record { lines = (t.lines + 1) % 2 ^ 64; wrong = t.wrong; line = t.line; size = t.size }
    → Goes t (10 ∷ []) (record { lines = u.lines; wrong = u.wrong; line = u.line; size = 0 })
line_same t u v e s f = rw f (line_ended t v t.wrong e (λ n h. omega (arith, h, ap wrong_by s)))

-- a line with another answer, or a malformed one
pub line_wrong : (t u : Tally) (v : Verdict) → v ≡ verdict_in t.line t.size → (v ≡ Same → ⊥)
    → u ≡ record { lines = (t.lines + 1) % 2 ^ 64; wrong = (t.wrong + 1) % 2 ^ 64; line = t.line; size = t.size }
    → Goes t (10 ∷ []) (record { lines = u.lines; wrong = u.wrong; line = u.line; size = 0 })
line_wrong t u v e s f = rw f (line_ended t v ((t.wrong + 1) % 2 ^ 64) e (λ n h. omega (arith, h, other_wrong v s)))

-- the counts after another character are those before
on : (t : Tally) (b size : ℕ) (next : List ℕ) → (b ≡ 10 → ⊥) → length next ≡ length t.line
    → ((line : List ℕ) → Kept t.line t.size line → Kept next size (line ++ (b ∷ [])))
    → Goes t (b ∷ []) (record { lines = t.lines; wrong = t.wrong; line = next; size = size })
on t b size next h e k =
    record {
      goes = λ (before : List ℕ) (p : Counted before t).
          let line : List ℕ = rest_from [] before in
          let all : lines_from [] (before ++ (b ∷ [])) ≡ lines_from [] before
          = lines_joined [] before (b ∷ []) ∙ ap (λ (ls : List (List ℕ)). lines_from [] before ++ ls) (on_lines line b h)
          ∙ append-nil (lines_from [] before) in
          let rest : rest_from [] (before ++ (b ∷ [])) ≡ line ++ (b ∷ []) = rest_joined [] before (b ∷ []) ∙ on_rest line b h in
          record {
            lines = rw all p.lines;
            wrong = rw (all, e) p.wrong;
            rest = rw rest (k line p.rest);
          };
    }

-- a character that has no room
kept_long : (room line : List ℕ) (size b : ℕ) → Kept room size line → length room ≤ size → Kept room (length room + 1) (line ++ (b ∷ []))
kept_long room line size b k h =
    let n : length (line ++ (b ∷ [])) ≡ length line + 1 = length-append line (b ∷ []) in
    record {
      fits = λ f. absurd (omega (arith, n, f, h, k.fits (omega (arith, n, f))));
      is = λ f. absurd (omega (arith, n, f, h, k.fits (omega (arith, n, f))));
      long = λ _. omega arith;
    }

pub byte_long : (t : Tally) (b size : ℕ) → (b ≡ 10 → ⊥) → length t.line ≤ t.size → size ≡ length t.line + 1
    → Goes t (b ∷ []) (record { lines = t.lines; wrong = t.wrong; line = t.line; size = size })
byte_long t b size h s e = on t b size t.line h refl (λ line k. rw e (kept_long t.line line t.size b k s))

-- a character that has room
kept_more : (t : Bool) (room line : List ℕ) (size b : ℕ) → ltb (length room) (length line) ≡ t → Kept room size line → size < length room
    → Kept (set room size b) (size + 1) (line ++ (b ∷ []))
kept_more true room line size b e k h = absurd (omega (arith, h, k.long (ltb-true (length room) (length line) e)))
kept_more false room line size b e k h =
    let n : length (line ++ (b ∷ [])) ≡ length line + 1 = length-append line (b ∷ []) in
    let f : length line ≤ length room = ltb-false (length room) (length line) e in
    let s : size + 1 ≡ suc size = omega arith in
    let r : length (set room size b) ≡ length room = length-set room size b in
    record {
      fits = λ _. omega (arith, n, k.fits f);
      is = λ _. rw s (take-suc-set room size b h ∙ ap (λ (l : List ℕ). l ++ (b ∷ [])) (k.is f));
      long = λ l. absurd (omega (arith, n, r, l, h, k.fits f));
    }

pub byte_more : (t : Tally) (b : ℕ) → (b ≡ 10 → ⊥) → t.size < length t.line
    → Goes t (b ∷ []) (record { lines = t.lines; wrong = t.wrong; line = set t.line t.size b; size = t.size + 1 })
byte_more t b h s =
    on t b (t.size + 1) (set t.line t.size b) h (length-set t.line t.size b)
    (λ line k. kept_more (ltb (length t.line) (length line)) t.line line t.size b refl k s)

-- from read to read: the tally is that of the bytes of all reads before number k, one at each of i turns
pub record Held (fd : ℤ) (t : Tally) (k i : ℕ) : Type 0 where
  pub bytes : List ℕ
  pub arrived : Arrived fd k bytes
  pub counted : Counted bytes t
  pub turns : k ≡ i

-- before the first read
pub held_none : (fd : ℤ) (t : Tally) → Counted [] t → Held fd t 0 0
held_none fd t c = record { bytes = []; arrived = none; counted = c; turns = refl }

-- a count that has not reached 2^24 does not roll over
one_more : (k l : ℕ) → k < 16_777_216 → l ≡ (k + 1) % 2 ^ 64 → l ≡ suc k
one_more k l h e = omega arith

-- after a read that gave bytes
pub held_more : (fd : ℤ) (t r : Tally) (k l i n : ℕ) → Held fd t k i → i < 16_777_216 → Turned fd k t r (pos n) → (n ≡ 0 → ⊥)
    → l ≡ (k + 1) % 2 ^ 64 → Held fd r l (i + 1)
held_more fd t r k l i n p h u some e =
    rw (one_more k l (omega (arith, h, p.turns)) e) record {
      bytes = p.bytes ++ take n u.block;
      arrived = more k n p.bytes u.block p.arrived u.read (omega (arith, some));
      counted = u.goes.goes p.bytes p.counted;
      turns = omega (arith, p.turns);
    }
