-- `digest::all` meets its contract: the bytes of every read so far have been taken in.
-- Assumes nothing.
use Rattle.std.proofs.Common.{rules}
use Rattle.digest.proofs.Laws.{fresh_ok, known_normal, known_long, held_none, held_more, held_failed, held_end, held_enough}
use Rattle.digest.proofs.all.Goals as goal

pub unwrap-state-requires : goal.unwrap-state-requires
unwrap-state-requires c = search (fresh_ok, known_normal, known_long, rules)

pub loop-init : goal.loop-init
loop-init c = search (held_none, rules)

pub returns-in_err-one : goal.returns-in_err-one
returns-in_err-one c = search (held_failed, rules)

pub loop-preserved : goal.loop-preserved
loop-preserved c = search (held_more, rules)

pub returns-after-loop : goal.returns-after-loop
returns-after-loop c = search (held_enough, rules)

pub returns-then-branch-eq0 : goal.returns-then-branch-eq0
returns-then-branch-eq0 c = held_end _ _ _ _ _ c.loop.invariant c.in_ok-one.ensures.turned c.if-branch-eq0.true
