-- `leap::Tables::near_places` meets its contract: three indices, and three places.
-- Assumes nothing.
use Rattle.leap.proofs.Threes.{near_all}
use Rattle.std.proofs.Common.{rules}
use Rattle.leap.proofs.Tables.near_places.Goals as goal

pub returns : goal.returns
returns c = search (near_all, rules)
