-- What holds of T and of the mapping's values, as statements (docs/RULES.md, section 2).
-- Assumes nothing.
use Rattle.std.specs.Prelude.{ℕ, ◌%◌, ◌≤◌, ◌<◌, ◌≡◌}
use Rattle.pearson.specs.Table.{table, occurs}
use Rattle.pearson.specs.Mapping.{look, short, bucket}

-- each byte stands in T once
abbrev pub TableOnce : Type 0
TableOnce = (k : ℕ) → k < 256 → occurs k table ≡ 1

-- an entry of T is a byte
abbrev pub LookBelow : Type 0
LookBelow = (i : ℕ) → look i < 256

-- every value of a variant's mapping is a byte
abbrev pub BucketBelow : Type 0
BucketBelow = (v a b c d : ℕ) → bucket v a b c d < 256

-- and in the short variant it is at most 48
abbrev pub BucketShort : Type 0
BucketShort = (a b c d : ℕ) → bucket 48 a b c d < 49

-- the short value of a number below 240 is that number mod 48
abbrev pub ShortLow : Type 0
ShortLow = (x : ℕ) → x < 240 → short x ≡ x % 48

-- and of any other number 48
abbrev pub ShortHigh : Type 0
ShortHigh = (x : ℕ) → 240 ≤ x → short x ≡ 48
