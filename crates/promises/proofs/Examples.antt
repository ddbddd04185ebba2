-- The marked examples hold: one result over the whole list, by computation.
-- Assumes nothing.
use mathlib.Core.Path.{refl}
use Rattle.pearson.specs.Table.{table}
use Rattle.pearson.specs.Mapping.{look, after, mapping, short, own, bucket}
use Rattle.length.specs.Tops.{tops}
use Rattle.length.specs.Code.{coded}
use Rattle.qratios.specs.Ratios.{quotient}
use Rattle.promises.specs.Examples.{examples, ExamplesHold}

pub examples_hold : ExamplesHold
unfolding examples mapping after look table short own bucket coded tops quotient
examples_hold = refl
