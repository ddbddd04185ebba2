-- `generate::store` meets its contract: the bytes are stored one behind the other.
-- Assumes nothing.
use Rattle.generate.proofs.Parts.{fills_none, fills_more, fills_all}
use Rattle.generate.proofs.store.Goals as goal

pub loop-i-init : goal.loop-i-init
loop-i-init c = search fills_none

pub loop-i-preserved : goal.loop-i-preserved
loop-i-preserved c = search fills_more

pub returns : goal.returns
returns c = search fills_all
