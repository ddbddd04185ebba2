-- The contract of `replay_inputs` leaves one state.
-- Assumes nothing.
use Rattle.params.proofs.One.{One, one_answer}
use Rattle.generate.specs.declared.State.{State}
use Rattle.replay_inputs.specs.contracts.feed_input as feed_input

one_feed_input : One feed_input.ended (λ M 𝓤. feed_input.clauses) State (λ κs z e. e.0.now)
one_feed_input M 𝓤 𝓛 at_mem run κs a g h z y e f = one_answer 𝓤 _ e.0.now f.0.now
