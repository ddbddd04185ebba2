-- `text::rows_of` meets its contract. The loop stores the two digits of one byte after the other.
-- Assumes nothing.
use Rattle.text.proofs.Apart.{rowed_none, rowed_more, rowed_all}
use borrow.Author.Rules.{rules}
use mathlib.Core.Path.{◌≡◌}
use lib.ListN.{length}
use native.Mathlib.Omega.{arith}
use Rattle.text.proofs.rows_of.Goals as goal

pub loop-i-init : goal.loop-i-init
loop-i-init c = search rowed_none

pub loop-i-preserved : goal.loop-i-preserved
loop-i-preserved c = rw (c.character.ensures, c.character-in-loop-i.ensures, c.high.ensures, c.low.ensures) (search (rowed_more, rules))

pub returns : goal.returns
returns c =
    let end : c.loop-i.i ≡ length c.args.bytes.now = omega arith in
    rowed_all _ _ _ _ c.loop-i.invariant end
