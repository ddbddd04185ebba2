-- `saltcurtain::feed` meets its contract: what is left, fed to the state so far, answers what the whole input answers.
-- Assumes nothing.
use Rattle.std.proofs.Common.{◌≡◌}
use Rattle.std.specs.Slice.Iter.{chunks_rest, chunks_size}
use Rattle.generate.specs.Answer.{updated}
use Rattle.saltcurtain.proofs.feed.Given as goal

abbrev pub invariant-loop-bytes : goal.invariant-loop-bytes
invariant-loop-bytes l =
    goal.iterator-loop-bytes.can_next l.bytes-iterator
    × goal.iterator-loop-bytes.is_finite l.bytes-iterator
    × (chunks_size l.bytes-iterator ≡ l.piece)
    × (updated l.state (chunks_rest l.bytes-iterator) ≡ updated l.initial.state l.input)
