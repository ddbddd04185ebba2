-- `length::limits_of` meets its contract: the limits of each variant are those of its number.
-- Assumes nothing.
use Rattle.std.proofs.Common.{rules}
use Rattle.params.specs.Variants.{known}
use Rattle.length.specs.Limits.{minimum, maximum, limits_of}
use Rattle.length.proofs.limits_of.Goals as goal

pub returns-in-Short : goal.returns-in-Short
unfolding known minimum maximum limits_of
returns-in-Short c = search rules

pub returns-in-Normal : goal.returns-in-Normal
unfolding known minimum maximum limits_of
returns-in-Normal c = search rules
