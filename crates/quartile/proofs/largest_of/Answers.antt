-- `quartile::largest_of` meets its contract: the fold is that of the larger of two numbers.
-- Assumes nothing.
use Rattle.std.proofs.Common.{◌≡◌, max, ◌∙◌, rules}
use Rattle.std.specs.List.{fold}
use Rattle.quartile.proofs.Laws.{fold_largest}
use Rattle.quartile.proofs.largest_of.Goals as goal

pub returns : goal.returns
returns c =
    let e : c.fold.result ≡ fold max 0 c.args.used.now = search rules in
    e ∙ fold_largest c.args.used.now
