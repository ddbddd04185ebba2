-- `parse::read_text` meets its contract: what is left after `T1` gives the answer of the definition.
-- Assumes nothing.
use mathlib.Core.Path.{◌≡◌}
use lib.ListN.{length, get_or}
use Rattle.params.specs.Variants.{buckets}
use Rattle.text.specs.Text.{text_size}
use Rattle.parse.proofs.Reading.{left_9, left_0}
use borrow.Author.Rules.{rules}
use Rattle.parse.proofs.read_text.Goals as goal

pub returns-in_default-tested : goal.returns-in_default-tested
returns-in_default-tested c =
    let long : length c.args.text.now ≡ text_size (buckets c.in_ok-variant.variant) = search rules in
    let first : get_or c.args.text.now 0 0 ≡ 84 = search rules in
    let second : get_or c.args.text.now 1 0 ≡ 49 = search rules in
    left_9 _ _ _ c.in_ok-variant.ensures long first second c.in_default-tested.ensures

pub returns : goal.returns
returns c =
    let long : length c.args.text.now ≡ text_size (buckets c.in_ok-variant.variant) = search rules in
    let first : get_or c.args.text.now 0 0 ≡ 84 = search rules in
    let second : get_or c.args.text.now 1 0 ≡ 49 = search rules in
    left_0 _ _ _ c.in_ok-variant.ensures long first second _ c.in-Some.ensures c.in-Some.digits.good _ c.digest.ensures
