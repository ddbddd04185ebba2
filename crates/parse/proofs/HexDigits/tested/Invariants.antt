-- `parse::HexDigits::tested` meets its contract. The loop tests one block of sixteen characters after the other.
-- Assumes nothing.
use Rattle.std.specs.Slice.Iter.{chunks_exact_rest, chunks_exact_size}
use mathlib.Core.Path.{◌≡◌}
use Rattle.parse.proofs.Reading.{Front}
use Rattle.parse.proofs.HexDigits.tested.Given as goal

abbrev pub invariant-loop-block : goal.invariant-loop-block
invariant-loop-block l = Front l.t (chunks_exact_rest l.block-iterator) × (chunks_exact_size l.block-iterator ≡ 16)
