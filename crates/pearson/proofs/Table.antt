-- T has each byte once, and every entry is a byte: one computed test each, over the whole table.
-- Assumes nothing.
use mathlib.Core.Bool.{Bool}
use Prim.Native.Nat.{ℕ, ◌<◌}
use native.Mathlib.Omega.{arith}
use native.Mathlib.Decide.{dec_lt}
use lib.Dec.{eqb, eqb→eq, ltb, ltb→lt}
use lib.ListN.{get_or, get_or-eq_default}
use Rattle.params.proofs.Every.{every_at}
use Rattle.pearson.specs.Table.{table, occurs}
use Rattle.pearson.specs.Mapping.{look}
use Rattle.pearson.specs.Theorems.{TableOnce, LookBelow}

single : ℕ → ℕ → Bool
single k x = eqb (occurs k table) 1

-- each byte stands in T once
pub table_once : TableOnce
unfolding single table occurs
table_once k h = eqb→eq (occurs k table) 1 (every_at single table tt k h)

small : ℕ → ℕ → Bool
small k x = ltb x 256

look_by : (i : ℕ) → Dec (i < 256) → look i < 256
unfolding look table small
look_by i (yes h) = ltb→lt (get_or table i 0) 256 (every_at small table tt i h)
look_by i (no n) = rw (get_or-eq_default table 0 {n = i} (omega arith)) (omega arith)

-- an entry of T is a byte
pub look_lt : LookBelow
look_lt i = look_by i (dec_lt i 256)
