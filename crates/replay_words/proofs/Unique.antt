-- The contracts of `replay_words` leave one answer each: of a returned part, its place and its content.
-- Assumes nothing.
use mathlib.Core.Path.{◌≡◌, sym, ◌∙◌}
use mathlib.Core.List.{List}
use Prim.Native.Nat.{ℕ}
use seplogic.Ra.Ura.{Ura}
use base.Logic.{ent, sep, fst∗, snd∗, via}
use contract.Monad.{fact, fact_use, fact_i}
use Rattle.params.proofs.One.{One, OneAnswer, two_facts, one_answer}
use Rattle.replay_words.specs.contracts.rest_after as rest_after
use Rattle.replay_words.specs.contracts.word_after as word_after
use Rattle.replay_words.specs.contracts.same_text as same_text
use Rattle.replay_words.specs.contracts.read_number as read_number

-- content and place, each equated in an `ensures` of its own, leave one of each
one_part : {M : Type 1} (𝓤 : Ura M) (s : List ℕ) (at : ℕ × ℕ) (k l : List ℕ) (a b : ℕ × ℕ)
    → ent 𝓤 (sep 𝓤 (sep 𝓤 (fact 𝓤 (k ≡ s)) (fact 𝓤 (a ≡ at))) (sep 𝓤 (fact 𝓤 (l ≡ s)) (fact 𝓤 (b ≡ at))))
    (fact 𝓤 (◌≡◌ {A = (ℕ × ℕ) × List ℕ} (a, k) (b, l)))
one_part 𝓤 s at k l a b =
    let F = sep 𝓤 (fact 𝓤 (k ≡ s)) (fact 𝓤 (a ≡ at)) in
    let G = sep 𝓤 (fact 𝓤 (l ≡ s)) (fact 𝓤 (b ≡ at)) in
    fact_use 𝓤 ((k ≡ s) × (a ≡ at)) (via 𝓤 F (fst∗ 𝓤 F G) (two_facts 𝓤 (k ≡ s) (a ≡ at) ((k ≡ s) × (a ≡ at)) (λ p q. (p, q))))
    (λ p. fact_use 𝓤 ((l ≡ s) × (b ≡ at)) (via 𝓤 G (snd∗ 𝓤 F G) (two_facts 𝓤 (l ≡ s) (b ≡ at) ((l ≡ s) × (b ≡ at)) (λ p q. (p, q))))
    (λ q. fact_i 𝓤 (◌≡◌ {A = (ℕ × ℕ) × List ℕ} (a, k) (b, l)) (sep 𝓤 F G) (λ i. ((p.1 ∙ sym q.1) i, (p.0 ∙ sym q.0) i))))

one_rest_after : One rest_after.ended (λ M 𝓤. rest_after.clauses) ((ℕ × ℕ) × List ℕ) (λ κs z e. (z.ref_ptr, z.now))
one_rest_after M 𝓤 𝓛 at_mem run κs a g h z y e f = one_part 𝓤 _ _ z.now y.now z.ref_ptr y.ref_ptr

one_word_after : One word_after.ended (λ M 𝓤. word_after.clauses) ((ℕ × ℕ) × List ℕ) (λ κs z e. (z.ref_ptr, z.now))
one_word_after M 𝓤 𝓛 at_mem run κs a g h z y e f = one_part 𝓤 _ _ z.now y.now z.ref_ptr y.ref_ptr

one_same_text : OneAnswer same_text.ended (λ M 𝓤. same_text.clauses)
one_same_text M 𝓤 𝓛 at_mem run κs a g h z y e f = one_answer 𝓤 _ z y

one_read_number : OneAnswer read_number.ended (λ M 𝓤. read_number.clauses)
one_read_number M 𝓤 𝓛 at_mem run κs a g h z y e f = one_answer 𝓤 _ z y
