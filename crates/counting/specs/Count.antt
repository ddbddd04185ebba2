-- What a later byte does to the checksum and to the counters (docs/RULES.md, section 3).
-- Assumes nothing.
use Rattle.std.specs.Prelude.{ℕ, ◌+◌, ◌%◌, ◌^◌, List, slice_index, slice_set}
use Rattle.pearson.specs.Mapping.{bucket}

-- the checksum c after a byte b4, with b3 before it: the variant's own mapping of (0, b4, b3, c)
unfoldable pub checked : ℕ → ℕ → ℕ → ℕ → ℕ
checked v c b4 b3 = bucket v 0 b4 b3 c

-- k more at the counter i, which rolls over from 4,294,967,295 to 0
unfoldable pub bump_by : List ℕ → ℕ → ℕ → List ℕ
bump_by cs i k = slice_set cs i ((slice_index cs i + k) % 2 ^ 32)

-- one more
abbrev pub bump : List ℕ → ℕ → List ℕ
bump cs i = bump_by cs i 1

-- one more for each of the six mappings of a byte b4, with b3, b2, b1, b0 before it, b3 nearest
unfoldable pub counted : ℕ → List ℕ → ℕ → ℕ → ℕ → ℕ → ℕ → List ℕ
counted v cs b4 b3 b2 b1 b0 =
    bump
    (bump
    (bump
    (bump
    (bump
    (bump cs (bucket v 2 b4 b3 b2))
    (bucket v 3 b4 b3 b1))
    (bucket v 5 b4 b2 b1))
    (bucket v 7 b4 b2 b0))
    (bucket v 11 b4 b3 b0))
    (bucket v 13 b4 b1 b0)
