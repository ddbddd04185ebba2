-- `compare::total` meets its contract: no sum leaves the 64 bits, and the last is that of the bytes.
-- Assumes nothing.
use Rattle.compare.proofs.Lanes.{total_fits, first_fits, second_fits, total_sum, total_most}
use Rattle.compare.proofs.total.Goals as goal

pub overflow_add-t : goal.overflow_add-t
overflow_add-t c = total_fits c.args.s

pub overflow_add-u : goal.overflow_add-u
overflow_add-u c = first_fits c.args.s

pub overflow_add-v : goal.overflow_add-v
overflow_add-v c = second_fits c.args.s

pub returns : goal.returns
returns c = (total_sum c.args.s, total_most c.args.s)
