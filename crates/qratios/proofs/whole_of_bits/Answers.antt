-- `qratios::whole_of_bits` meets its contract.
-- Assumes nothing.
use Rattle.qratios.proofs.Truncate.{whole_below_one, whole_from_one}
use Rattle.qratios.proofs.whole_of_bits.Goals as goal

pub returns-then-b-lt1065353216 : goal.returns-then-b-lt1065353216
returns-then-b-lt1065353216 c = search whole_below_one

pub returns : goal.returns
returns c = search whole_from_one
