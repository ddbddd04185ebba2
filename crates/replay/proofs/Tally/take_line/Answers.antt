-- `replay::Tally::take_line` meets its contract.
-- Assumes nothing.
use Rattle.std.proofs.Common.{rules}
use Rattle.replay.proofs.Laws.{line_same, line_wrong}
use Rattle.replay.proofs.Tally.take_line.Goals as goal
use Rattle.replay.proofs.Tally.take_line.Goals.{in-Same, in_default}

pub returns : goal.returns
returns c = elim c.match-judge.branch [
  | in-Same w ↦ search (line_same, rules)
  | in_default w ↦ search (line_wrong, w.in_default.not-Same, rules)
]
