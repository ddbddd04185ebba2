-- `parse::byte_of` meets its contract: the halves of the number are the two characters.
-- Assumes nothing.
use mathlib.Core.Path.{◌∙◌, ap}
use Rattle.parse.specs.Reading.{value_of}
use Rattle.parse.proofs.Digits.{both_is, byte_made}
use Rattle.parse.proofs.byte_of.Goals as goal

pub returns : goal.returns
returns c =
    let both = both_is c.args.pair.now c.fits-pair c.from_le_bytes-both.result c.from_le_bytes-both.ensures in
    byte_made _ _ _ _ (c.value_of.ensures.0 ∙ ap value_of both.1) (c.value_of-2.ensures.0 ∙ ap value_of both.0)
