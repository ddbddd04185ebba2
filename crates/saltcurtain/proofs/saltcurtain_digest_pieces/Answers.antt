-- `saltcurtain::saltcurtain_digest_pieces` meets its contract.
-- Assumes nothing.
use Rattle.saltcurtain.proofs.Laws.{digested_done}
use Rattle.saltcurtain.proofs.saltcurtain_digest_pieces.Goals as goal

pub returns : goal.returns
returns c =
    digested_done _ _ _ _ c.in_ok-judge.ensures _ _ _ _ c.in_ok-state.ensures c.feed.ensures.fed c.finish.ensures
