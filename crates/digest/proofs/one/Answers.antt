-- `digest::one` meets its contract.
-- Assumes nothing.
use Rattle.std.proofs.Common.{rules}
use Rattle.digest.proofs.Laws.{turned_failed}
use Rattle.digest.proofs.one.Goals as goal

pub returns-in_err-count-clause-turned : goal.returns-in_err-count-clause-turned
returns-in_err-count-clause-turned c = search (turned_failed, rules)
