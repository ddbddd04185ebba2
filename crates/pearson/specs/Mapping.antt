-- The mapping of four bytes (docs/RULES.md, section 2).
-- Assumes nothing.
use Rattle.std.specs.Prelude.{ℕ, ◌%◌, cond, List, map, ltb, eqb, get_or, Result, Ok, Err}
use Rattle.std.specs.Int.Bits.{bit_xor}
use Rattle.params.specs.Variants.{known}
use Rattle.params.specs.declared.Refusal.{Refusal}
use Rattle.params.specs.declared.Refusal.TheVariants.{UnknownVariant}
use Rattle.pearson.specs.Table.{table}

-- the entry of T at i
unfoldable pub look : ℕ → ℕ
look i = get_or table i 0

-- the state s after the byte v: T[s xor v]
unfoldable pub after : ℕ → ℕ → ℕ
after s v = look (bit_xor s v)

-- the bytes a, b, c, d in turn, from 0
unfoldable pub mapping : ℕ → ℕ → ℕ → ℕ → ℕ
mapping a b c d = after (after (after (after 0 a) b) c) d

-- the short variant's value of x: x mod 48 below 240, and else 48
unfoldable pub short : ℕ → ℕ
short x = cond (ltb x 240) (x % 48) 48

-- a variant's own value of x
unfoldable pub own : ℕ → ℕ → ℕ
own v x = cond (eqb v 48) (short x) x

-- a variant's own mapping
unfoldable pub bucket : ℕ → ℕ → ℕ → ℕ → ℕ → ℕ
bucket v a b c d = own v (mapping a b c d)

-- a variant's table for the last of the four bytes: its own value of each entry of T
unfoldable pub lasts : ℕ → List ℕ
lasts v = map (own v) table

-- what is answered to a question for one value
unfoldable pub mapped : ℕ → ℕ → ℕ → ℕ → ℕ → Result ℕ Refusal
mapped v a b c d = cond (known v) (Ok (bucket v a b c d)) (Err UnknownVariant)
