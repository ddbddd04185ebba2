-- `replay_words::word_size` meets its contract: the search stops at the first space.
-- Assumes nothing.
use Rattle.std.proofs.Common.{◌≡◌, ◌∙◌, ap, length, arith, eqb, unwrap_or, Option, ℕ}
use Rattle.std.proofs.lemmas.Iterator.{YieldsList-from_slice}
use Rattle.std.proofs.lemmas.Iterator.Search.{position_from_yields_List}
use borrow.Author.Tests.{tests}
use Rattle.std.proofs.Common.{rules}
use Rattle.replay_words.specs.Words.{word_size}
use Rattle.replay_words.proofs.Words.{size_is, size_within}
use Rattle.replay_words.proofs.word_size.Goals as goal

pub returns : goal.returns
returns c =
    let found = position_from_yields_List (λ x. eqb x 32) _ _ c.position.result c.position.ensures.ran
    (YieldsList-from_slice c.args.s.now cc) (λ x b q k. search (rules, tests)) in
    let size : c.unwrap_or.result ≡ word_size c.args.s.now =
    c.unwrap_or.ensures ∙ ap (λ (o : Option ℕ). unwrap_or o (length c.args.s.now)) found ∙ size_is c.args.s.now in
    (size, omega (arith, size, size_within c.args.s.now))
