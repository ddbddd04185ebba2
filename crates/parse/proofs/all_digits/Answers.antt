-- `parse::all_digits` meets its contract. The loop tests one character after the other.
-- Assumes nothing.
use Rattle.parse.proofs.Reading.{tested_more, tested_all}
use borrow.Author.Rules.{rules}
use Rattle.parse.proofs.all_digits.Goals as goal

pub loop-c-preserved : goal.loop-c-preserved
loop-c-preserved c = search (tested_more, rules)

pub returns : goal.returns
returns c = search (tested_all, rules)
