-- `leap::Tables::turn` meets its contract: six places, and the checksum.
-- Assumes nothing.
use Rattle.leap.proofs.Turns.{scanned_one}
use Rattle.std.proofs.Common.{rules}
use Rattle.leap.proofs.Tables.turn.Goals as goal

pub returns : goal.returns
returns c = search (scanned_one, rules)
