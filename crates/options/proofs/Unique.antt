-- The contracts of `options` leave one answer, and one content of the memory that is lent to be written, each.
-- Assumes nothing.
use Rattle.params.proofs.One.{One, OneAnswer, one_answer}
use Rattle.options.specs.declared.Options.{Options}
use Rattle.options.specs.contracts.Options.new as new
use Rattle.options.specs.contracts.options_of as options_of
use Rattle.options.specs.contracts.Options.with_conservative as with_conservative
use Rattle.options.specs.contracts.Options.set_conservative as set_conservative
use Rattle.options.specs.contracts.Options.with_integer as with_integer
use Rattle.options.specs.contracts.Options.set_integer as set_integer
use Rattle.options.specs.contracts.Options.with_small as with_small
use Rattle.options.specs.contracts.Options.set_small as set_small
use Rattle.options.specs.contracts.Options.with_half as with_half
use Rattle.options.specs.contracts.Options.set_half as set_half
use Rattle.options.specs.contracts.Options.with_quarter as with_quarter
use Rattle.options.specs.contracts.Options.set_quarter as set_quarter

one_new : OneAnswer new.ended (λ M 𝓤. new.clauses)
one_new M 𝓤 𝓛 at_mem run κs a g h z y e f = one_answer 𝓤 _ z y

one_options_of : OneAnswer options_of.ended (λ M 𝓤. options_of.clauses)
one_options_of M 𝓤 𝓛 at_mem run κs a g h z y e f = one_answer 𝓤 _ z y

one_with_conservative : OneAnswer with_conservative.ended (λ M 𝓤. with_conservative.clauses)
one_with_conservative M 𝓤 𝓛 at_mem run κs a g h z y e f = one_answer 𝓤 _ z y

one_set_conservative : One set_conservative.ended (λ M 𝓤. set_conservative.clauses) Options (λ κs z e. e.0.now)
one_set_conservative M 𝓤 𝓛 at_mem run κs a g h z y e f = one_answer 𝓤 _ e.0.now f.0.now

one_with_integer : OneAnswer with_integer.ended (λ M 𝓤. with_integer.clauses)
one_with_integer M 𝓤 𝓛 at_mem run κs a g h z y e f = one_answer 𝓤 _ z y

one_set_integer : One set_integer.ended (λ M 𝓤. set_integer.clauses) Options (λ κs z e. e.0.now)
one_set_integer M 𝓤 𝓛 at_mem run κs a g h z y e f = one_answer 𝓤 _ e.0.now f.0.now

one_with_small : OneAnswer with_small.ended (λ M 𝓤. with_small.clauses)
one_with_small M 𝓤 𝓛 at_mem run κs a g h z y e f = one_answer 𝓤 _ z y

one_set_small : One set_small.ended (λ M 𝓤. set_small.clauses) Options (λ κs z e. e.0.now)
one_set_small M 𝓤 𝓛 at_mem run κs a g h z y e f = one_answer 𝓤 _ e.0.now f.0.now

one_with_half : OneAnswer with_half.ended (λ M 𝓤. with_half.clauses)
one_with_half M 𝓤 𝓛 at_mem run κs a g h z y e f = one_answer 𝓤 _ z y

one_set_half : One set_half.ended (λ M 𝓤. set_half.clauses) Options (λ κs z e. e.0.now)
one_set_half M 𝓤 𝓛 at_mem run κs a g h z y e f = one_answer 𝓤 _ e.0.now f.0.now

one_with_quarter : OneAnswer with_quarter.ended (λ M 𝓤. with_quarter.clauses)
one_with_quarter M 𝓤 𝓛 at_mem run κs a g h z y e f = one_answer 𝓤 _ z y

one_set_quarter : One set_quarter.ended (λ M 𝓤. set_quarter.clauses) Options (λ κs z e. e.0.now)
one_set_quarter M 𝓤 𝓛 at_mem run κs a g h z y e f = one_answer 𝓤 _ e.0.now f.0.now
