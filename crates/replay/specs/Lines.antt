-- What the program counts of the bytes of the list: its lines, and those whose answer is not the one that is defined (host/README.md, The
-- stored list). A line ends in a line feed, which is 10. A line that has more characters than there is room for is malformed.
-- Assumes nothing.
use Rattle.std.specs.Prelude.{◌≡◌, ℕ, ◌+◌, ◌%◌, ◌^◌, ◌<◌, ◌≤◌, cond, List, [], ◌∷◌, ◌++◌, length, take, ℤ, pos, negsuc, ◌==◌, nat_lt, Bool, true, false, Result, IfOk, OnErr}
use Rattle.reading.specs.Reading.{Read, Arrived, Gave, counted}
use Rattle.replay_verdict.specs.declared.Verdict.{Verdict}
use Rattle.replay_verdict.specs.declared.Verdict.TheVariants.{Same, Another, Malformed}
use Rattle.replay_verdict.specs.Line.{verdict_of}
use Rattle.replay.specs.declared.Tally.{Tally}

-- the lines that end in some bytes, without their line feeds, where the first one has begun
unfoldable pub lines_from : List ℕ → List ℕ → List (List ℕ)
lines_from begun [] = []
lines_from begun (b ∷ bytes) = cond (b == 10) (begun ∷ lines_from [] bytes) (lines_from (begun ++ (b ∷ [])) bytes)

-- what stands after the last of them
unfoldable pub rest_from : List ℕ → List ℕ → List ℕ
rest_from begun [] = begun
rest_from begun (b ∷ bytes) = cond (b == 10) (rest_from [] bytes) (rest_from (begun ++ (b ∷ [])) bytes)

-- 1 for a line that differs or is malformed, 0 for one with the same answer
abbrev pub wrong_by : Verdict → ℕ
wrong_by Same = 0
wrong_by Another = 1
wrong_by Malformed = 1

-- the same of a line, with room for so many characters
unfoldable pub wrong_line : ℕ → List ℕ → ℕ
wrong_line room line = wrong_by (cond (nat_lt room (length line)) Malformed (verdict_of line))

-- how many lines are wrong
unfoldable pub wrong_in : ℕ → List (List ℕ) → ℕ
wrong_in room [] = 0
wrong_in room (line ∷ lines) = wrong_line room line + wrong_in room lines

-- a room keeps a line: its characters where there is room, else a size that the room has not
pub record Kept (room : List ℕ) (size : ℕ) (line : List ℕ) : Type 0 where
  pub fits : length line ≤ length room → size ≡ length line
  pub is : length line ≤ length room → take size room ≡ line
  pub long : length room < length line → length room < size

-- the tally of some bytes: their lines, the wrong ones, both modulo 2^64, and the line that has not ended
pub record Counted (bytes : List ℕ) (t : Tally) : Type 0 where
  pub lines : t.lines ≡ length (lines_from [] bytes) % 2 ^ 64
  pub wrong : t.wrong ≡ wrong_in (length t.line) (lines_from [] bytes) % 2 ^ 64
  pub rest : Kept t.line t.size (rest_from [] bytes)

-- from one tally to the next by some bytes: if the first was that of the bytes before, the next is that of those and these
pub record Goes (t : Tally) (bytes : List ℕ) (r : Tally) : Type 0 where
  pub goes : (before : List ℕ) → Counted before t → Counted (before ++ bytes) r

-- one turn, by the bytes of read number k: all that it counted, from the front of the block that it left. Where the read met the end or
-- failed the tally is as it was
pub record Turned (fd : ℤ) (k : ℕ) (t r : Tally) (answer : ℤ) : Type 0 where
  pub block : List ℕ
  pub read : Read fd k block answer
  pub goes : Goes t (take (counted answer) block) r
  pub same : counted answer ≡ 0 → r ≡ t

-- all turns: the tally of the bytes of all reads, where the read after them met the end (true) or failed; else 2^24 reads were made
pub record Listed {E : Type 0} (fd : ℤ) (t : Tally) (r : Result Bool E) : Type 0 where
  pub reads : ℕ
  pub bytes : List ℕ
  pub arrived : Arrived fd reads bytes
  pub counted : Counted bytes t
  pub last : IfOk r (λ ended. ended ≡ true → Gave fd reads (pos 0))
  pub enough : IfOk r (λ ended. ended ≡ false → 2 ^ 24 ≤ reads)
  pub failed : OnErr r (Gave fd reads (negsuc 0))
