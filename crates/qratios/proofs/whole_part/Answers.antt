-- `qratios::whole_part` meets its contract.
-- Assumes nothing.
use Rattle.qratios.proofs.Truncate.{low_no_nan}
use Rattle.qratios.proofs.whole_part.Goals as goal

pub float_to_bits-x : goal.float_to_bits-x
float_to_bits-x c = search low_no_nan
