-- `pearson::last_table` meets its contract: the short table computes, and the other is T.
-- Assumes nothing.
use mathlib.Core.Path.{sym, ◌∙◌}
use Rattle.pearson.specs.Table.{table}
use Rattle.pearson.specs.Mapping.{short, own, lasts}
use Rattle.pearson.proofs.Values.{lasts_other}
use Rattle.pearson.proofs.last_table.Goals as goal

pub returns-then-variant-buckets : goal.returns-then-variant-buckets
unfolding lasts own short table
returns-then-variant-buckets c = rw (c.if-variant-buckets.true ∙ c.buckets.ensures)

pub returns-else-variant-buckets : goal.returns-else-variant-buckets
unfolding table
returns-else-variant-buckets c = sym (lasts_other _ (λ e. c.if-variant-buckets.false (e ∙ sym c.buckets.ensures)))
