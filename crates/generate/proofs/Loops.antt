-- The laws of counting the later bytes in two parts.
-- Assumes nothing.
use mathlib.Core.Path.{◌≡◌, ◌∙◌, sym}
use mathlib.Core.List.{List}
use Prim.Native.Nat.{ℕ, ◌*◌, ◌/◌}
use native.Mathlib.Omega.{arith}
use lib.ListN.{length, take, drop, take-append-drop, length-take}
use lib.Seq.{take_all}
use Rattle.counting.specs.declared.Window.{Window}
use Rattle.counting.specs.Window.{Ran}
use Rattle.leap.specs.Fours.{fours}
use Rattle.counting.proofs.Laws.{moves_cut, hits_cut}
use Rattle.generate.specs.Parts.{Fours}

-- the whole fours of a part of some fours are the part itself
part_fours : (xs : List ℕ) (m : ℕ) → Fours (length xs) m → fours (take m xs) ≡ take m xs
unfolding fours
part_fours xs m f = take_all (length (take m xs) / 4 * 4) (take m xs) (omega (arith, length-take m xs, f.most, f.whole))

-- bytes that are run in two parts are run, where the first part is some fours
pub ran_cut : (v m : ℕ) (xs ys zs cs ds es : List ℕ) (w w1 w2 : Window) → Fours (length xs) m → ys ≡ take m xs → zs ≡ drop m xs
    → Ran v (fours ys) cs w ds w1 → Ran v zs ds w1 es w2 → Ran v xs cs w es w2
ran_cut v m xs ys zs cs ds es w w1 w2 f y z o q =
    let p : Ran v (take m xs) cs w ds w1 = rw (y, part_fours xs m f) at o in
    let window = rw (z, p.window) at q.window in
    let counters = rw (z, p.window, p.counters) at q.counters in
    record {
      window = rw (take-append-drop m xs) at (window ∙ sym (moves_cut v (take m xs) (drop m xs) w));
      counters = rw (take-append-drop m xs) at (counters ∙ sym (hits_cut v (take m xs) (drop m xs) w cs));
    }
