-- The maximum of every variant is the last top.
-- Assumes nothing.
use mathlib.Core.Path.{sym}
use Rattle.length.specs.Limits.{maximum}
use Rattle.length.specs.Theorems.{MaximumTop}
use Rattle.length.proofs.Codes.{last_top}

pub maximum_top : MaximumTop
unfolding maximum
maximum_top v = sym last_top
