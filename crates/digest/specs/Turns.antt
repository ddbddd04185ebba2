-- What the program promises of its reading: the state that it holds is what all bytes of its reads come to, those of each read in full and
-- in order (docs/RULES.md, section 8). Standard input is file descriptor 0. And what it promises of its answer.
-- Assumes nothing.
use Rattle.std.specs.Prelude.{ℕ, ◌≤◌, ◌^◌, ◌≡◌, ◌⊎◌, List, ℤ, pos, negsuc, length, take, Result, Ok, Err, IfOk, OnOk, OnErr}
use Rattle.params.specs.declared.Refusal.{Refusal}
use Rattle.text.specs.Text.{Wrote}
use Rattle.reading.specs.Reading.{Read, Arrived, Gave, counted}
use Rattle.generate.specs.declared.State.{State}
use Rattle.generate.specs.Feed.{feed, fresh}
use Rattle.generate.specs.Answer.{updated}

-- one turn: t is s after the bytes of read number k, all that it counted, from the front of the block that it left
pub record Turned (k : ℕ) (s t : State) (answer : ℤ) : Type 0 where
  pub block : List ℕ
  pub read : Read (pos 0) k block answer
  pub is : t ≡ (updated s (take (counted answer) block)).state

-- all turns: the state that the bytes of all reads lead to, where the read after them met the end; else the bytes are at least 2^32, all
-- that a state takes in. Where the read after them failed there is no state
pub record Ended {E : Type 0} (r : Result State E) : Type 0 where
  pub reads : ℕ
  pub bytes : List ℕ
  pub arrived : Arrived (pos 0) reads bytes
  pub is : IfOk r (λ s. s ≡ feed bytes (fresh 128))
  pub last : OnOk r (Gave (pos 0) reads (pos 0) ⊎ (2 ^ 32 ≤ length bytes))
  pub failed : OnErr r (Gave (pos 0) reads (negsuc 0))

-- the text that was written, or the refusal
abbrev pub text_in : Wrote → Result (List ℕ) Refusal
text_in w = text_by w.answer w.destination
  where
    text_by : Result (Unit {0}) Refusal → List ℕ → Result (List ℕ) Refusal
    text_by (Ok u) text = Ok text
    text_by (Err e) text = Err e
