-- `compare::comparable` meets its contract: two digests of one variant can be compared.
-- Assumes nothing.
use mathlib.Core.Path.{sym}
use Rattle.compare.proofs.Answers.{comparable_same}
use Rattle.compare.proofs.comparable.Goals as goal

pub returns : goal.returns
returns c = sym (comparable_same _ _ _ c.in_ok-shared_variant.ensures.0 c.in_ok-shared_variant.ensures.1)
