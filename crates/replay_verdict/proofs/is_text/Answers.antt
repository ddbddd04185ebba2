-- `replay_verdict::is_text` meets its contract: the text that is written is held to the line.
-- Assumes nothing.
use Rattle.std.proofs.Common.{◌≡◌, length, length-take, arith, rules, Ok}
use Rattle.std.proofs.lemmas.Grind.{common_steps}
use Rattle.text.specs.Text.{size_of}
use Rattle.replay_verdict.specs.Line.{is_text}
use Rattle.replay_verdict.proofs.Line.{size_none, size_known, front_text, front_size}
use Rattle.replay_verdict.proofs.is_text.Goals as goal

pub returns-in_default : goal.returns-in_default
unfolding is_text
returns-in_default c = grind (arith, common_steps, size_none)

pub slice_bounds-text-end : goal.slice_bounds-text-end
slice_bounds-text-end c =
    let long : length c.args.digest.now.body ≡ 64 = search rules in
    let size : size_of c.args.digest.now.variant ≡ Ok c.in-Ok.size = search rules in
    omega (arith, front_size _ _ _ _ long size c.write_text.ensures, length-take c.in-Ok.size c.write_text.new.destination)

pub slice_bounds-same_text-end : goal.slice_bounds-same_text-end
slice_bounds-same_text-end c =
    let long : length c.args.digest.now.body ≡ 64 = search rules in
    front_size _ _ _ _ long (search rules) c.write_text.ensures

pub returns : goal.returns
unfolding is_text
returns c =
    let long : length c.args.digest.now.body ≡ 64 = search rules in
    let size : size_of c.args.digest.now.variant ≡ Ok c.in-Ok.size = search rules in
    rw ((size_known _ _ size).0, ← front_text _ _ _ _ long size c.write_text.ensures, ← c.rest_after.ensures.content) c.same_text.ensures
