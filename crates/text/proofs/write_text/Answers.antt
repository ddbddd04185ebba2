-- `text::write_text` meets its contract: each answer is that of the definition.
-- Assumes nothing.
use Rattle.std.proofs.lemmas.Result.{err_from_is_err_and}
use Rattle.text.proofs.Writing.{write_6, write_7, write_0}
use mathlib.Core.Path.{◌≡◌}
use Prim.Native.Nat.{◌≤◌}
use lib.ListN.{length}
use Rattle.params.specs.Variants.{buckets}
use Rattle.text.specs.Text.{text_size}
use borrow.Author.Rules.{rules}
use Rattle.text.proofs.write_text.Goals as goal

pub returns-in_err-variant : goal.returns-in_err-variant
returns-in_err-variant c =
    let p = err_from_is_err_and c.from_residual.result c.from_residual.ensures.1 in
    rw (p.1, p.2, c.in_err-variant.ensures.0) (write_6 _ _ c.in_err-variant.ensures.1)

pub returns-then-destination-size : goal.returns-then-destination-size
returns-then-destination-size c =
    let long : length c.args.digest.now.body ≡ 64 = search rules in
    write_7 _ _ _ long c.in_ok-variant.ensures (search rules)

pub returns : goal.returns
returns c =
    let long : length c.args.digest.now.body ≡ 64 = search rules in
    let fits : text_size (buckets c.in_ok-variant.variant) ≤ length c.args.destination.now = search rules in
    write_0 _ _ _ long c.in_ok-variant.ensures _ _ fits c.put_head.ensures c.put_body.ensures
