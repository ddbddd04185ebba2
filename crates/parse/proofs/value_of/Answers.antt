-- `parse::value_of` meets its contract. Each case is that of the definition.
-- Assumes nothing.
use Rattle.parse.proofs.Digits.{digit_least, value_small, value_low, value_high}
use borrow.Author.Rules.{rules}
use Rattle.parse.proofs.value_of.Goals as goal

pub overflow_sub-result : goal.overflow_sub-result
overflow_sub-result c = search digit_least

pub returns-then-c-le57 : goal.returns-then-c-le57
returns-then-c-le57 c = search (value_low, value_small, rules)

pub returns-else-c-le57 : goal.returns-else-c-le57
returns-else-c-le57 c = search (value_high, value_small, rules)
