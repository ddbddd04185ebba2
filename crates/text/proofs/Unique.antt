-- The contracts of `text` leave one answer, and one content of the memory that is lent to be written, each.
-- Assumes nothing.
use mathlib.Core.Path.{◌≡◌, sym, ◌∙◌}
use mathlib.Core.List.{List}
use Prim.Native.Nat.{ℕ}
use seplogic.Ra.Ura.{Ura}
use base.Logic.{ent, sep}
use contract.Monad.{fact}
use Rattle.std.specs.Prelude.{Result}
use Rattle.params.specs.declared.Refusal.{Refusal}
use Rattle.params.proofs.One.{One, OneAnswer, two_facts, one_answer}
use Rattle.text.specs.Text.{Wrote, Written, Numbered}
use Rattle.text.specs.contracts.text_size as text_size
use Rattle.text.specs.contracts.write_text as write_text

abbrev pub Answer : Type 0
Answer = Result (Unit {0}) Refusal

-- an answer and the content of a destination, both equated, leave one of each
pub one_written : {M : Type 1} (𝓤 : Ura M) (w : Wrote) (a b : Answer) (k l : List ℕ)
    → ent 𝓤 (sep 𝓤 (fact 𝓤 (Written a k w)) (fact 𝓤 (Written b l w))) (fact 𝓤 (◌≡◌ {A = Answer × List ℕ} (a, k) (b, l)))
one_written 𝓤 w a b k l =
    two_facts 𝓤 (Written a k w) (Written b l w) (◌≡◌ {A = Answer × List ℕ} (a, k) (b, l))
    (λ p q i. ((p.answered ∙ sym q.answered) i, (p.left ∙ sym q.left) i))

-- so do a number and the content of a destination
pub one_numbered : {M : Type 1} (𝓤 : Ura M) (w : Wrote) (a b : ℕ) (k l : List ℕ)
    → ent 𝓤 (sep 𝓤 (fact 𝓤 (Numbered a k w)) (fact 𝓤 (Numbered b l w))) (fact 𝓤 (◌≡◌ {A = ℕ × List ℕ} (a, k) (b, l)))
one_numbered 𝓤 w a b k l =
    two_facts 𝓤 (Numbered a k w) (Numbered b l w) (◌≡◌ {A = ℕ × List ℕ} (a, k) (b, l))
    (λ p q i. ((p.answered ∙ sym q.answered) i, (p.left ∙ sym q.left) i))

one_text_size : OneAnswer text_size.ended (λ M 𝓤. text_size.clauses)
one_text_size M 𝓤 𝓛 at_mem run κs a g h z y e f = one_answer 𝓤 _ z y

one_write_text : One write_text.ended (λ M 𝓤. write_text.clauses) (Answer × List ℕ) (λ κs z e. (z, e.1.0.now))
one_write_text M 𝓤 𝓛 at_mem run κs a g h z y e f = one_written 𝓤 _ z y e.1.0.now f.1.0.now
