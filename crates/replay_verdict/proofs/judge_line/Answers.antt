-- `replay_verdict::judge_line` meets its contract: each verdict is that of the definition.
-- Assumes nothing.
use Rattle.std.proofs.Common.{rules}
use Rattle.replay_verdict.proofs.Line.{never_refused, verdict_malformed, verdict_same, verdict_differs}
use Rattle.replay_verdict.proofs.judge_line.Goals as goal

pub returns-in_default : goal.returns-in_default
returns-in_default c = search (verdict_malformed, rules)

pub returns-in_default-new : goal.returns-in_default-new
returns-in_default-new c = absurd (search (never_refused, rules))

pub returns-then-is_answer : goal.returns-then-is_answer
returns-then-is_answer c = search (verdict_same, rules)

pub returns-else-is_answer : goal.returns-else-is_answer
returns-else-is_answer c = search (verdict_differs, rules)
