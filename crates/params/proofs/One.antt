-- A contract leaves one outcome: two that both meet the `ensures` of a function are equal. What is cited of a function is its own
-- contract, `clauses`, which the prover makes of the text in `src`: where that promises less, the proof here fails.
-- Assumes nothing.
use mathlib.Core.Path.{◌≡◌, sym, ◌∙◌}
use seplogic.Ra.Ura.{Ura}
use base.Logic.{SProp, ent, sep, fst∗, snd∗}
use prog.Memory.{Memory}
use prog.Routine.{Routine}
use types.Logic.{Logic}
use contract.Monad.{Fun, fact, fact_use, fact_i}
use contract.Lifetimes.{Lfts}
use denote.Triple.Entry.{Args, Res}
use denote.Triple.Clauses.{Ended, Clauses, AtExit}

-- the clauses of a function's contract, in every model of the logic
abbrev pub AllClauses : Ended → Type 2
AllClauses T = (M : Type 1) (𝓤 : Ura M) → (𝓛 : Logic 𝓤) → (Memory → SProp 𝓤) → (Routine → Fun 𝓤) → Clauses 𝓤 T

-- of two outcomes for the same arguments a, the result z with the lent memory e at exit and y with f, that both meet the `ensures`,
-- the same is seen: `seen` names the result and what each lent memory holds at exit
abbrev pub One : (T : Ended) → AllClauses T → (B : Type 0)
    → ((κs : Lfts T.signature.lifetimes) → Res T.signature κs → AtExit T κs → B) → Type 2
One T c B seen =
    (M : Type 1) (𝓤 : Ura M) (𝓛 : Logic 𝓤) (at_mem : Memory → SProp 𝓤) (run : Routine → Fun 𝓤)
    (κs : Lfts T.signature.lifetimes) (a : Args T.signature κs) (g h : (c M 𝓤 𝓛 at_mem run κs a).ghost)
    (z y : Res T.signature κs) (e f : AtExit T κs)
    → ent 𝓤 (sep 𝓤 ((c M 𝓤 𝓛 at_mem run κs a).ensures g z e) ((c M 𝓤 𝓛 at_mem run κs a).ensures h y f))
    (fact 𝓤 (seen κs z e ≡ seen κs y f))

-- where no memory is lent to be written: the results are equal
abbrev pub OneAnswer : (T : Ended) → AllClauses T → Type 2
OneAnswer T c =
    (M : Type 1) (𝓤 : Ura M) (𝓛 : Logic 𝓤) (at_mem : Memory → SProp 𝓤) (run : Routine → Fun 𝓤)
    (κs : Lfts T.signature.lifetimes) (a : Args T.signature κs) (g h : (c M 𝓤 𝓛 at_mem run κs a).ghost)
    (z y : Res T.signature κs) (e f : AtExit T κs)
    → ent 𝓤 (sep 𝓤 ((c M 𝓤 𝓛 at_mem run κs a).ensures g z e) ((c M 𝓤 𝓛 at_mem run κs a).ensures h y f)) (fact 𝓤 (z ≡ y))

-- what follows from two facts
pub two_facts : {M : Type 1} (𝓤 : Ura M) (P Q R : Type 0) → (P → Q → R) → ent 𝓤 (sep 𝓤 (fact 𝓤 P) (fact 𝓤 Q)) (fact 𝓤 R)
two_facts 𝓤 P Q R h =
    fact_use 𝓤 P (fst∗ 𝓤 (fact 𝓤 P) (fact 𝓤 Q))
    (λ p. fact_use 𝓤 Q (snd∗ 𝓤 (fact 𝓤 P) (fact 𝓤 Q)) (λ q. fact_i 𝓤 R (sep 𝓤 (fact 𝓤 P) (fact 𝓤 Q)) (h p q)))

-- an equation with a definition leaves one answer
pub one_answer : {M : Type 1} (𝓤 : Ura M) {B : Type 0} (d z y : B) → ent 𝓤 (sep 𝓤 (fact 𝓤 (z ≡ d)) (fact 𝓤 (y ≡ d))) (fact 𝓤 (z ≡ y))
one_answer 𝓤 d z y = two_facts 𝓤 (z ≡ d) (y ≡ d) (z ≡ y) (λ p q. p ∙ sym q)
