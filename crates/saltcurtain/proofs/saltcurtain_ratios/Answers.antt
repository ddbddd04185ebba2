-- `saltcurtain::saltcurtain_ratios` meets its contract: both quotients are numbers.
-- Assumes nothing.
use borrow.Author.Rules.{rules}
use Rattle.saltcurtain.proofs.Laws.{first_number, second_number, ratios_done}
use Rattle.saltcurtain.proofs.saltcurtain_ratios.Goals as goal

pub float_to_bits-out : goal.float_to_bits-out
float_to_bits-out c = first_number _ _ _ _ c.in_ok-ratios.ensures (search rules)

pub float_to_bits-out-2 : goal.float_to_bits-out-2
float_to_bits-out-2 c = second_number _ _ _ _ c.in_ok-ratios.ensures (search rules)

pub returns : goal.returns
returns c = ratios_done _ _ _ _ c.in_ok-ratios.ensures (search rules) _
