-- The record with one flag set, the other four as they were (docs/RULES.md, section 7).
-- Assumes nothing.
use Rattle.std.specs.Prelude.{Bool}
use Rattle.options.specs.declared.Options.{Options}
use Rattle.options.specs.Options.{flags}

abbrev pub with_conservative : Options → Bool → Options
with_conservative o v = flags v o.integer o.small o.half o.quarter

abbrev pub with_integer : Options → Bool → Options
with_integer o v = flags o.conservative v o.small o.half o.quarter

abbrev pub with_small : Options → Bool → Options
with_small o v = flags o.conservative o.integer v o.half o.quarter

abbrev pub with_half : Options → Bool → Options
with_half o v = flags o.conservative o.integer o.small v o.quarter

abbrev pub with_quarter : Options → Bool → Options
with_quarter o v = flags o.conservative o.integer o.small o.half v
