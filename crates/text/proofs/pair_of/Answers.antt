-- `text::pair_of` meets its contract: a test of all pairs shows that the sum is the number of both characters.
-- Assumes nothing.
use Rattle.text.proofs.Characters.{pair_made_lem, two_characters}
use Rattle.text.proofs.pair_of.Goals as goal

pub returns : goal.returns
returns c =
    let made = pair_made_lem _ _ c.args.first.small c.args.second.small in
    rw (c.from.ensures, c.from-2.ensures) (two_characters _ _ _ c.args.first.small c.args.second.small made)
