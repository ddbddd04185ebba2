-- `text::put_pairs` meets its contract. The loop stores one pair after the other.
-- Assumes nothing.
use Rattle.text.proofs.Apart.{puts_none, puts_more, puts_all}
use borrow.Author.Rules.{rules}
use Rattle.text.proofs.put_pairs.Goals as goal

pub loop-i-init : goal.loop-i-init
loop-i-init c = search puts_none

pub loop-i-preserved : goal.loop-i-preserved
loop-i-preserved c = search (puts_more, rules)

pub returns : goal.returns
returns c = search (puts_all, rules)
