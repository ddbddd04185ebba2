-- `saltcurtain::feed` meets its contract: what is left, fed to the state so far, answers what the whole input answers.
-- Assumes nothing.
use Rattle.std.proofs.Common.{◌∙◌, rules}
use Rattle.std.proofs.lemmas.List.{nil_from_length}
use Rattle.generate.specs.Answer.{updated}
use Rattle.saltcurtain.proofs.Laws.{fed_refused, answer_refused, fed_more, fed_all}
use Rattle.saltcurtain.proofs.feed.Goals as goal

pub loop-bytes-init : goal.loop-bytes-init
loop-bytes-init c = (search rules, tt, search rules, search rules)

pub loop-bytes-preserved : goal.loop-bytes-preserved
loop-bytes-preserved c =
    let steps = c.in-Some.ensures.steps in (
      search rules,
      tt,
      steps.0 ∙ c.loop-bytes.invariant.2,
      fed_more _ _ _ _ _ _ _ c.loop-bytes.invariant.3 c.update-in-loop-bytes.ensures.state steps.1.0,
    )

pub returns-in_err-update-clause-fed : goal.returns-in_err-update-clause-fed
unfolding updated
returns-in_err-update-clause-fed c = search (fed_refused, rules)

pub returns-in_err-update-clause-refused : goal.returns-in_err-update-clause-refused
unfolding updated
returns-in_err-update-clause-refused c = search (answer_refused, rules)

pub returns-clause-fed : goal.returns-clause-fed
returns-clause-fed c = fed_all _ _ _ _ c.loop-bytes.invariant.3 (nil_from_length _ c.in-None.ensures.steps.1.0)
