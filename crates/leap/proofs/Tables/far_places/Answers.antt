-- `leap::Tables::far_places` meets its contract: three indices, and three places.
-- Assumes nothing.
use Rattle.leap.proofs.Threes.{far_all}
use Rattle.std.proofs.Common.{rules}
use Rattle.leap.proofs.Tables.far_places.Goals as goal

pub returns : goal.returns
returns c = search (far_all, rules)
