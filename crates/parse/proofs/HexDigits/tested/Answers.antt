-- `parse::HexDigits::tested` meets its contract. The loop tests one block of sixteen characters after the other.
-- Assumes nothing.
use mathlib.Core.Path.{sym, ◌∙◌}
use Rattle.parse.proofs.Reading.{front_more, front_fail, front_all}
use Rattle.parse.proofs.HexDigits.tested.Goals as goal

pub returns-then-not-all_digits : goal.returns-then-not-all_digits
returns-then-not-all_digits c =
    front_fail _ _ _ _ c.loop-block.invariant.0 c.in-Some.ensures.steps.1.0 (sym c.all_digits.ensures ∙ c.if-not-all_digits.true)

pub loop-block-preserved : goal.loop-block-preserved
loop-block-preserved c =
    let front = c.loop-block.invariant.0 in
    let size = c.loop-block.invariant.1 in
    let step = c.in-Some.ensures.steps in
    (front_more _ _ _ _ front step.1.0 (step.1.1 ∙ size) (sym c.all_digits.ensures ∙ c.if-not-all_digits.false), step.0 ∙ size)

pub invariant_of-result : goal.invariant_of-result
invariant_of-result c =
    let last = front_all _ _ _ _ c.loop-block.invariant.0 c.loop-block.invariant.1 c.in-None.ensures.steps.1.0 c.requires c.all_digits-2.ensures in
    record { good = last ∙ c.if-all_digits.true }

pub returns-else-all_digits : goal.returns-else-all_digits
returns-else-all_digits c =
    let last = front_all _ _ _ _ c.loop-block.invariant.0 c.loop-block.invariant.1 c.in-None.ensures.steps.1.0 c.requires c.all_digits-2.ensures in
    last ∙ c.if-all_digits.false
