-- `generate::State::update` meets its contract: 6, then 19, and else the fed state.
-- Assumes nothing.
use Rattle.generate.proofs.Updates.{answer_refused, state_refused, few, answer_fed, full_or_none, still_stops, state_fed}
use borrow.Author.Rules.{rules}
use Rattle.generate.proofs.State.update.Goals as goal

pub returns-in_err-judge-clause-answer : goal.returns-in_err-judge-clause-answer
returns-in_err-judge-clause-answer c = search (rules, answer_refused)

pub returns-in_err-judge-clause-state : goal.returns-in_err-judge-clause-state
returns-in_err-judge-clause-state c = state_refused _ _ _ c.in_err-judge.ensures

pub fill-filled-requires : goal.fill-filled-requires
fill-filled-requires c = few c.args.self.now c.in_ok-judge.ensures

pub count-requires-clause-full : goal.count-requires-clause-full
count-requires-clause-full c = full_or_none _ _ c.in_ok-judge.ensures _ _ c.fill-filled.ensures.filled c.fill-filled.ensures.state

pub count-requires-clause-within : goal.count-requires-clause-within
count-requires-clause-within c = still_stops _ _ c.in_ok-judge.ensures _ _ c.fill-filled.ensures.filled c.fill-filled.ensures.state

pub returns-clause-answer : goal.returns-clause-answer
returns-clause-answer c = answer_fed _ _ c.in_ok-judge.ensures

pub returns-clause-state : goal.returns-clause-state
returns-clause-state c = state_fed _ _ c.in_ok-judge.ensures _ _ c.fill-filled.ensures.filled c.fill-filled.ensures.state _ c.count.ensures
