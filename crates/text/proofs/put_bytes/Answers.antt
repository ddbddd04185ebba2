-- `text::put_bytes` meets its contract: the rows stored in turn are the text.
-- Assumes nothing.
use Rattle.text.proofs.Apart.{rows_stored}
use borrow.Author.Rules.{rules}
use Rattle.text.proofs.put_bytes.Goals as goal

pub returns : goal.returns
returns c = search (rows_stored, rules)
