-- `parse::HexDigits::bytes` meets its contract. The loop stores one byte after the other.
-- Assumes nothing.
use Rattle.parse.proofs.Reading.{Bodied}
use Rattle.parse.proofs.HexDigits.bytes.Given as goal

abbrev pub invariant-loop-i : goal.invariant-loop-i
invariant-loop-i l = Bodied l.self.chars.now l.i l.body
