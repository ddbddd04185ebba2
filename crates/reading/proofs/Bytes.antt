-- What holds of the bytes of all reads.
-- Assumes nothing.
use Rattle.std.proofs.Common.{◌≡◌, ℕ, ◌≤◌, List, length, take, ℤ, arith, length-append, length-take}
use Rattle.reading.specs.Reading.{Arrived, none, more}

-- the reads before number k gave k bytes at least
pub arrived_enough : (fd : ℤ) (k : ℕ) (bytes : List ℕ) → Arrived fd k bytes → k ≤ length bytes
arrived_enough fd k bytes none = omega arith
arrived_enough fd k bytes (more j n before block a p some) =
    omega (arith, arrived_enough fd j before a, p.within, length-take n block, length-append before (take n block))

-- the first n bytes of a block that has so many are n
pub first_bytes : (n : ℕ) (block : List ℕ) → n ≤ length block → n ≡ length (take n block)
first_bytes n block h = omega (arith, length-take n block)
