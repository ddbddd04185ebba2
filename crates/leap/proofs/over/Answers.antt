-- `leap::over` meets its contract: the fast loop takes the whole fours of the bytes.
-- Assumes nothing.
use Rattle.std.proofs.Common.{◌≡◌, length, rules, sym, ◌∙◌}
use Rattle.leap.proofs.Turns.{ran_none, ran_fours}
use Rattle.leap.proofs.over.Goals as goal

pub returns-then-is_empty : goal.returns-then-is_empty
returns-then-is_empty c =
    let e : length c.as_chunks.result.0.now ≡ 0 = search rules in
    ran_none _ _ _ _ (sym c.as_chunks.ensures.front_len ∙ e)

pub returns : goal.returns
returns c = ran_fours _ _ _ _ _ _ _ c.as_chunks.ensures.front c.leap.ensures
