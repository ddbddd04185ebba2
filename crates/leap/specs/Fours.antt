-- How many of some later bytes the fast loop takes.
-- Assumes nothing.
use Rattle.std.specs.Prelude.{ℕ, ◌*◌, ◌/◌, List, length, take}

-- the whole fours of a list: all of it but the last three at most
unfoldable pub fours : List ℕ → List ℕ
fours bs = take (length bs / 4 * 4) bs
