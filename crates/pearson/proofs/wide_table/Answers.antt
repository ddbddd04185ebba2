-- `pearson::wide_table` meets its contract, by computation.
-- Assumes nothing.
use mathlib.Core.Path.{refl}
use Rattle.pearson.specs.Table.{table}
use Rattle.pearson.proofs.wide_table.Goals as goal

pub returns : goal.returns
unfolding table
returns c = refl
