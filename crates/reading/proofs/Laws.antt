-- What a read promises, from what the system answers.
-- Assumes nothing.
use Rattle.std.proofs.Common.{ℕ, List, ℤ, Result, Ok, Err, arith}
use Rattle.std.specs.Io.{ReadsAtMost}
use Rattle.reading_seal.specs.Came.{Came}
use Rattle.reading.specs.Reading.{Read, answered}

-- what a read puts into a block has room there
pub read_is : {E : Type 0} (fd : ℤ) (k : ℕ) (block : List ℕ) (r : Result ℕ E) → Came fd k block (answered r) → ReadsAtMost r block
    → Read fd k block (answered r)
read_is fd k block (Ok n) c h = record { came = c; within = h.0 }
read_is fd k block (Err e) c h = record { came = c; within = omega arith }
