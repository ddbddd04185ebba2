-- What a read promises, and what all the reads of a program come to.
-- Assumes nothing.
use Rattle.std.specs.Prelude.{ℕ, suc, ◌<◌, ◌≤◌, List, [], ◌++◌, length, take, ℤ, pos, negsuc, Result, Ok, Err}
use Rattle.reading_seal.specs.Came.{Came}
use Rattle.std.specs.Fd.{file_raw_fd}
use Rattle.reading.specs.declared.Input.{Input}
use Rattle.reading.specs.declared.Input.TheVariants.{Standard, Opened}

-- the file descriptor of what is read
abbrev pub descriptor_of : Input → ℤ
descriptor_of (Standard s) = pos 0
descriptor_of (Opened f) = file_raw_fd f.now

-- the system's answer to a read, as the C library gives it: how many bytes, 0 at the end, or -1 for an error
abbrev pub answered : {E : Type 0} → Result ℕ E → ℤ
answered (Ok n) = pos n
answered (Err e) = negsuc 0

-- how many bytes an answer counts: at the end and for an error none
abbrev pub counted : ℤ → ℕ
counted (pos n) = n
counted (negsuc n) = 0

-- read number k answered this, and left this block, which has so many bytes at least
pub record Read (fd : ℤ) (k : ℕ) (block : List ℕ) (answer : ℤ) : Type 0 where
  pub came : Came fd k block answer
  pub within : counted answer ≤ length block

-- the bytes of the reads before number k, in order: of each, all that it counted, from the front of the block that it left
pub data Arrived (fd : ℤ) : ℕ → List ℕ → Type 0 where
  none : Arrived fd 0 []
  more : (k n : ℕ) (bytes block : List ℕ) → Arrived fd k bytes → Read fd k block (pos n) → 0 < n → Arrived fd (suc k) (bytes ++ take n block)

-- read number k answered this
pub record Gave (fd : ℤ) (k : ℕ) (answer : ℤ) : Type 0 where
  pub block : List ℕ
  pub read : Read fd k block answer
