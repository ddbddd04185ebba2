-- The contracts of `generate` leave one answer each, and that of `update` one state.
-- Assumes nothing.
use mathlib.Core.Path.{◌≡◌}
use seplogic.Ra.Ura.{Ura}
use base.Logic.{ent, sep, fst∗, snd∗, via}
use contract.Monad.{fact, fact_use, fact_i}
use Rattle.std.specs.Prelude.{Result}
use Rattle.params.specs.declared.Refusal.{Refusal}
use Rattle.params.proofs.One.{One, OneAnswer, one_answer, two_facts}
use Rattle.generate.specs.declared.State.{State}
use Rattle.generate.specs.contracts.State.new as new
use Rattle.generate.specs.contracts.State.update as update
use Rattle.generate.specs.contracts.State.processed_len as processed_len

-- two equations with a definition leave one pair
one_pair : {M : Type 1} (𝓤 : Ura M) {B C : Type 0} (d z y : B) (k e f : C)
    → ent 𝓤 (sep 𝓤 (sep 𝓤 (fact 𝓤 (z ≡ d)) (fact 𝓤 (e ≡ k))) (sep 𝓤 (fact 𝓤 (y ≡ d)) (fact 𝓤 (f ≡ k))))
    (fact 𝓤 (◌≡◌ {A = B × C} (z, e) (y, f)))
one_pair 𝓤 {B} {C} d z y k e f =
    let F = sep 𝓤 (fact 𝓤 (z ≡ d)) (fact 𝓤 (e ≡ k)) in
    let G = sep 𝓤 (fact 𝓤 (y ≡ d)) (fact 𝓤 (f ≡ k)) in
    fact_use 𝓤 ((z ≡ d) × (e ≡ k)) (via 𝓤 F (fst∗ 𝓤 F G) (two_facts 𝓤 (z ≡ d) (e ≡ k) ((z ≡ d) × (e ≡ k)) (λ p q. (p, q))))
    (λ p. fact_use 𝓤 ((y ≡ d) × (f ≡ k)) (via 𝓤 G (snd∗ 𝓤 F G) (two_facts 𝓤 (y ≡ d) (f ≡ k) ((y ≡ d) × (f ≡ k)) (λ p q. (p, q))))
    (λ q. fact_i 𝓤 (◌≡◌ {A = B × C} (z, e) (y, f)) (sep 𝓤 F G) (rw (p.0, p.1, q.0, q.1))))

one_new : OneAnswer new.ended (λ M 𝓤. new.clauses)
one_new M 𝓤 𝓛 at_mem run κs a g h z y e f = one_answer 𝓤 _ z y

one_update : One update.ended (λ M 𝓤. update.clauses) (Result (Unit {0}) Refusal × State) (λ κs z e. (z, e.0.now))
one_update M 𝓤 𝓛 at_mem run κs a g h z y e f = one_pair 𝓤 _ z y _ e.0.now f.0.now

one_processed_len : OneAnswer processed_len.ended (λ M 𝓤. processed_len.clauses)
one_processed_len M 𝓤 𝓛 at_mem run κs a g h z y e f = one_answer 𝓤 _ z y
