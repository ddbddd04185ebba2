-- `replay_words::is_numeral` meets its contract: at a text of the right size the digits decide.
-- Assumes nothing.
use Rattle.std.proofs.Common.{rules, arith}
use Rattle.std.proofs.lemmas.Grind.{common_steps}
use Rattle.std.proofs.lemmas.Iterator.{YieldsList-from_slice}
use Rattle.std.proofs.lemmas.Iterator.Search.{all_from_yields_List}
use borrow.Author.Tests.{tests}
use Rattle.std.specs.Char.{is_ascii_digit}
use Rattle.replay_words.specs.Words.{is_numeral}
use Rattle.replay_words.proofs.Words.{decimals_are}
use Rattle.replay_words.proofs.is_numeral.Goals as goal

pub returns-then-s-le10 : goal.returns-then-s-le10
unfolding is_numeral
returns-then-s-le10 c =
    let all = all_from_yields_List is_ascii_digit _ _ c.all.result c.all.ensures.ran (YieldsList-from_slice c.args.s.now cc)
    (λ x b q k. search (rules, tests)) in
    grind (arith, common_steps, all, decimals_are 0 c.args.s.now)
