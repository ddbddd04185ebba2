-- Bytes of two bodies taken eight at a time: words of bytes, lowest first, and the word that has the cost of each pair of bytes in
-- their place. Only private functions cite this.
-- Assumes nothing.
use Rattle.std.specs.Prelude.{List, ℕ, zero, suc, ◌+◌, ◌*◌, ◌/◌, ◌%◌, get_or}
use Rattle.compare.specs.Distance.{code_cost}

-- the cost of two bytes: their four pairs of codes
unfoldable pub byte_cost : ℕ → ℕ → ℕ
byte_cost x y =
    code_cost (x % 4) (y % 4)
    + code_cost (x / 4 % 4) (y / 4 % 4)
    + code_cost (x / 16 % 4) (y / 16 % 4)
    + code_cost (x / 64 % 4) (y / 64 % 4)

-- n bytes from place i on, as one number
unfoldable pub packed : ℕ → List ℕ → ℕ → ℕ
packed zero xs i = 0
packed (suc n) xs i = get_or xs i 0 % 256 + 256 * packed n xs (suc i)

-- the cost of each of the n low bytes of two words, in the byte's place
unfoldable pub lane_costs : ℕ → ℕ → ℕ → ℕ
lane_costs zero x y = 0
lane_costs (suc n) x y = lane_costs n (x / 256) (y / 256) * 256 + byte_cost x y

-- the sum of the n low bytes of a word
unfoldable pub lane_sum : ℕ → ℕ → ℕ
lane_sum zero s = 0
lane_sum (suc n) s = s % 256 + lane_sum n (s / 256)

-- the costs of the eight bytes from place i on
abbrev pub eight_costs : List ℕ → List ℕ → ℕ → ℕ
eight_costs xs ys i = lane_costs 8 (packed 8 xs i) (packed 8 ys i)

-- those of 32, added byte by byte
abbrev pub four_costs : List ℕ → List ℕ → ℕ → ℕ
four_costs xs ys i = eight_costs xs ys i + eight_costs xs ys (i + 8) + eight_costs xs ys (i + 16) + eight_costs xs ys (i + 24)
