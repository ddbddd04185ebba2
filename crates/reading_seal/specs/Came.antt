-- What a read gave, as a sealed fact. Its definition can be unfolded in this crate alone, and its one law is named by whoever stands on
-- this crate, which is `reading`. Any other crate has the fact only from a call of a function that promises it.
-- Assumes nothing.
use Rattle.std.specs.Prelude.{ℕ, List, ℤ}

-- read number k of a file descriptor answered this, and left this block
pub Came : ℤ → ℕ → List ℕ → ℤ → Type 0
Came fd k block answer = Unit {0}

-- the one law: whoever can name it can state the fact of any read
pub came : (fd : ℤ) (k : ℕ) (block : List ℕ) (answer : ℤ) → Came fd k block answer
unfolding Came
came fd k block answer = tt
