-- The body (docs/RULES.md, section 4, step 7): a two-bit code for each used counter, four to a byte.
-- Assumes nothing.
use Rattle.std.specs.Prelude.{cond, List, [], ◌∷◌, ◌++◌, ℕ, zero, suc, ◌+◌, ◌-◌, ◌*◌, ◌/◌, min, ltb, length, get_or, replicate}
use Rattle.quartile.specs.declared.Quartiles.{Quartiles}

-- a counter above q3 has code 3, else above q2 2, else above q1 1, else 0
unfoldable pub code_of : Quartiles → ℕ → ℕ
code_of cuts counter = cond (ltb cuts.q3 counter) 3 (cond (ltb cuts.q2 counter) 2 (cond (ltb cuts.q1 counter) 1 0))

-- counters 4i to 4i+3 fill one byte, lowest two bits first
abbrev pub byte_of : Quartiles → List ℕ → ℕ → ℕ
byte_of cuts used i =
    code_of cuts (get_or used (4 * i) 0)
    + 4 * code_of cuts (get_or used (4 * i + 1) 0)
    + 16 * code_of cuts (get_or used (4 * i + 2) 0)
    + 64 * code_of cuts (get_or used (4 * i + 3) 0)

-- the bytes for i = m - 1 down to i = 0, which stands last
abbrev pub bytes_down : Quartiles → List ℕ → ℕ → List ℕ
bytes_down cuts used zero = []
bytes_down cuts used (suc i) = byte_of cuts used i ∷ bytes_down cuts used i

-- n counters fill a byte for each four of them. A body has room for the first 256
abbrev pub bytes_of : ℕ → ℕ
bytes_of n = min (n / 4) 64

-- the 64 bytes: those of the used counters, and then 0
unfoldable pub body_of : Quartiles → List ℕ → List ℕ
body_of cuts used = bytes_down cuts used (bytes_of (length used)) ++ replicate (64 - bytes_of (length used)) 0
