-- `compare::word_cost` meets its contract: nothing is borrowed, no sum leaves the 64 bits, and the last is the word of costs.
-- Assumes nothing.
use lib.Bits.{bit_xor}
use lib.Dec.{lit≤}
use Rattle.compare.proofs.Lanes.{near_fits, costs_fit, once_in, twice_in, sums_fit, far_fits, word_costs, word_most}
use Rattle.compare.proofs.word_cost.Goals as goal

pub overflow_sub-plain : goal.overflow_sub-plain
overflow_sub-plain c = once_in (bit_xor c.args.x c.args.y)

pub overflow_sub-plain-2 : goal.overflow_sub-plain-2
overflow_sub-plain-2 c = twice_in (bit_xor c.args.x c.args.y)

pub overflow_add-near : goal.overflow_add-near
overflow_add-near c = search near_fits

pub overflow_add-far : goal.overflow_add-far
overflow_add-far c = search near_fits

pub overflow_mul-s : goal.overflow_mul-s
overflow_mul-s c = far_fits c.args.x c.args.y _ (lit≤ tt)

pub overflow_add-s : goal.overflow_add-s
overflow_add-s c = sums_fit c.args.x c.args.y _ (lit≤ tt)

pub overflow_add-result : goal.overflow_add-result
overflow_add-result c = search costs_fit

pub returns : goal.returns
returns c = (word_costs c.args.x c.args.y, word_most c.args.x c.args.y)
