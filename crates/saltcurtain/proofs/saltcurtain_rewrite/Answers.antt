-- `saltcurtain::saltcurtain_rewrite` meets its contract: 6, then 7, then 8 and 9.
-- Assumes nothing.
use borrow.Author.Rules.{rules}
use Rattle.saltcurtain.proofs.Laws.{rewritten_room, rewritten_read, rewritten_done}
use Rattle.saltcurtain.proofs.saltcurtain_rewrite.Goals as goal

pub returns-then-branch : goal.returns-then-branch
returns-then-branch c = rewritten_room _ _ _ _ c.in_ok-text_size.ensures c.if-branch.true

pub returns-in_err-digest : goal.returns-in_err-digest
returns-in_err-digest c =
    search (
      rewritten_read c.args.variant c.args.text.now c.args.destination.now c.in_ok-text_size.field-0 c.in_ok-text_size.ensures
          c.if-branch.false,
      rules,
    )

pub returns : goal.returns
returns c = rewritten_done _ _ _ _ c.in_ok-text_size.ensures c.if-branch.false _ _ _ c.in_ok-digest.ensures c.write_text.ensures
