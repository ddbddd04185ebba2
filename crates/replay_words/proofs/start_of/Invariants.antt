-- `replay_words::start_of` meets its contract. The loop passes one word after the other.
-- Assumes nothing.
use Rattle.replay_words.proofs.Words.{Walked}
use Rattle.replay_words.proofs.start_of.Given as goal

abbrev pub invariant-loop : goal.invariant-loop
invariant-loop l = Walked l.line l.counter l.at
