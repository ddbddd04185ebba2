-- `pearson::first_table` meets its contract, by computation.
-- Assumes nothing.
use mathlib.Core.Path.{refl}
use Rattle.pearson.specs.Table.{table}
use Rattle.pearson.specs.Mapping.{look, after}
use Rattle.pearson.specs.Steps.{first, upwards, row, rows}
use Rattle.pearson.proofs.first_table.Goals as goal

pub returns : goal.returns
unfolding rows row upwards first after look table
returns c = refl
