-- `quartile::count_le` meets its contract: the blocks that are counted and what is still to be counted make the whole.
-- Assumes nothing.
use Rattle.std.proofs.Common.{◌≡◌}
use Rattle.std.specs.Slice.Iter.{chunks_rest, chunks_size}
use Rattle.quartile.specs.declared.TheConstants.{BLOCK}
use Rattle.quartile.proofs.Laws.{Counted}
use Rattle.quartile.proofs.count_le.Given as goal

abbrev pub invariant-loop-block : goal.invariant-loop-block
invariant-loop-block l = (chunks_size l.block-iterator ≡ BLOCK) × Counted l.v l.used (chunks_rest l.block-iterator) l.n
