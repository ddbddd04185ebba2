-- What a test shows where it passes: one that the code negates, and each of two that are joined.
-- Assumes nothing.
use mathlib.Core.Path.{◌≡◌, refl, sym, ◌∙◌}
use mathlib.Core.Bool.{Bool, true, false, not, ◌&&◌, true≢false}
use borrow.Author.Tests.{not-false}

-- what the test decides holds where its negation fails
pub passed : (a b : Bool) → b ≡ a → not b ≡ false → a ≡ true
passed a b e n = sym e ∙ not-false b n

-- both of two tests that are joined pass
pub and_both : (a b : Bool) → (a && b) ≡ true → (a ≡ true) × (b ≡ true)
and_both true b e = (refl, e)
and_both false b e = absurd (true≢false (sym e))
