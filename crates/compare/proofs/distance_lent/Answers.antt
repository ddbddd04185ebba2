-- `compare::distance_lent` meets its contract: a refusal, or the sum.
-- Assumes nothing.
use mathlib.Core.Path.{sym}
use Rattle.std.proofs.lemmas.Result.{err_from_is_err_and}
use Rattle.compare.proofs.Answers.{distance_refused, distance_done}
use Rattle.compare.specs.Distance.{with_body}
use Rattle.compare.proofs.distance_lent.Goals as goal

pub returns-in_err-variant : goal.returns-in_err-variant
returns-in_err-variant c =
    let p = err_from_is_err_and c.from_residual.result c.from_residual.ensures.1 in
    rw (p.1, p.2) (sym (distance_refused _ _ _ c.in_err-variant.ensures))

pub returns : goal.returns
returns c =
    distance_done (with_body c.args.a c.args.x.now) (with_body c.args.b c.args.y.now) _ _ _ c.in_ok-variant.ensures.0 c.in_ok-variant.ensures.1
    c.head_cost-heads.ensures.0 c.body_cost.ensures.0
