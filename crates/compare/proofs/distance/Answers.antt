-- `compare::distance` meets its contract: a refusal, or the sum.
-- Assumes nothing.
use mathlib.Core.Path.{sym}
use Rattle.std.proofs.lemmas.Result.{err_from_is_err_and}
use Rattle.compare.proofs.Answers.{distance_refused, distance_whole}
use borrow.Author.Rules.{rules}
use Rattle.compare.proofs.distance.Goals as goal

pub returns-in_err-variant : goal.returns-in_err-variant
returns-in_err-variant c =
    let p = err_from_is_err_and c.from_residual.result c.from_residual.ensures.1 in
    rw (p.1, p.2) (sym (distance_refused _ _ _ c.in_err-variant.ensures))

pub returns : goal.returns
returns c = search (distance_whole, rules)
