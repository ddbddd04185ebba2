-- `parse::HexDigits::byte_at` meets its contract: the two characters are digits.
-- Assumes nothing.
use Rattle.parse.proofs.Digits.{byte_made, digits_at}
use Rattle.parse.proofs.HexDigits.byte_at.Goals as goal

pub value_of-requires : goal.value_of-requires
value_of-requires c = search digits_at

pub value_of-requires-2 : goal.value_of-requires-2
value_of-requires-2 c = search digits_at

pub returns : goal.returns
returns c = search byte_made
