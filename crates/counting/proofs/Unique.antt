-- The contracts of `counting` leave one answer, and one content of the memory that is lent to be written, each.
-- Assumes nothing.
use Rattle.std.proofs.Common.{◌≡◌, ℕ, List, sym, ◌∙◌}
use seplogic.Ra.Ura.{Ura}
use base.Logic.{ent, sep}
use contract.Monad.{fact}
use Rattle.params.proofs.One.{One, two_facts, one_answer}
use Rattle.counting.specs.declared.Window.{Window}
use Rattle.counting.specs.Window.{Ran}
use Rattle.counting.specs.contracts.increment_by as increment_by
use Rattle.counting.specs.contracts.one_by_one as one_by_one

-- what later bytes lead to is one window and one list of counters
pub one_ran : {M : Type 1} (𝓤 : Ura M) (v : ℕ) (bs cs : List ℕ) (w x y : Window) (ds es : List ℕ)
    → ent 𝓤 (sep 𝓤 (fact 𝓤 (Ran v bs cs w ds x)) (fact 𝓤 (Ran v bs cs w es y))) (fact 𝓤 (◌≡◌ {A = Window × List ℕ} (x, ds) (y, es)))
one_ran 𝓤 v bs cs w x y ds es =
    two_facts 𝓤 (Ran v bs cs w ds x) (Ran v bs cs w es y) (◌≡◌ {A = Window × List ℕ} (x, ds) (y, es))
    (λ p q i. ((p.window ∙ sym q.window) i, (p.counters ∙ sym q.counters) i))

one_increment_by : One increment_by.ended (λ M 𝓤. increment_by.clauses) (List ℕ) (λ κs z e. e.0.now)
one_increment_by M 𝓤 𝓛 at_mem run κs a g h z y e f = one_answer 𝓤 _ e.0.now f.0.now

one_one_by_one : One one_by_one.ended (λ M 𝓤. one_by_one.clauses) (Window × List ℕ) (λ κs z e. (z, e.0.now))
one_one_by_one M 𝓤 𝓛 at_mem run κs a g h z y e f = one_ran 𝓤 _ _ _ _ z y e.0.now f.0.now
