-- The chunk rule: any cutting of the same bytes, with empty chunks, leads to the same state and the same answer.
-- Assumes nothing.
use mathlib.Core.Path.{◌≡◌, refl, ◌∙◌, ap, sym}
use mathlib.Core.Bool.{Bool, true, false}
use mathlib.Core.List.{List, [], ◌∷◌, ◌++◌, append-nil}
use Prim.Native.Nat.{ℕ}
use Rattle.params.specs.Variants.{known}
use Rattle.generate.specs.declared.State.{State}
use Rattle.generate.specs.Feed.{feed}
use Rattle.generate.specs.Answer.{marked, updated}
use Rattle.generate.specs.Chunks.{joined, feeds, updates}
use Rattle.generate.specs.Theorems.{FeedsJoined, UpdatedNone, UpdatesJoined, CuttingsAlike}
use Rattle.generate.proofs.Step.{cut}
use Rattle.generate.proofs.Marks.{fine_unmarked, unmarked_fine}
use Rattle.generate.proofs.Reached.{feed_on}

-- chunk upon chunk leads to the state that all bytes at once lead to, from any state
pub feeds_joined : FeedsJoined
unfolding feeds joined feed
feeds_joined [] s = refl
feeds_joined (xs ∷ xss) s = feeds_joined xss (feed xs s) ∙ sym (cut xs (joined xss) s)

-- an update with no byte, its two tests decided
none_by : (s : State) (k m : Bool) → known s.variant ≡ k → marked s.length s.tail_len ≡ m → s ≡ (updated s []).state
unfolding updated feed
none_by s true true p q = rw (p, q)
none_by s true false p q = rw (p, q)
none_by s false m p q = rw p

-- it leaves the state
pub updated_none : UpdatedNone
updated_none s = none_by s (known s.variant) (marked s.length s.tail_len) refl refl

-- two updates, their tests decided
two_by : (s : State) (xs ys : List ℕ) (k m : Bool) → known s.variant ≡ k → marked s.length s.tail_len ≡ m
    → updated (updated s xs).state ys ≡ updated s (xs ++ ys)
unfolding updated
two_by s xs ys false m p q = rw (p, p)
two_by s xs ys true true p q = rw (p, q, p, q)
two_by s xs ys true false p q =
    let o = feed_on xs s (unmarked_fine s.length s.tail_len q) in
    rw (p, q) (rw (ap known o.same ∙ p, fine_unmarked (feed xs s).length (feed xs s).tail_len o.fine, cut xs ys s))

-- two updates answer what one with both chunks answers, also where they refuse
pub two_updates : (s : State) (xs ys : List ℕ) → updated (updated s xs).state ys ≡ updated s (xs ++ ys)
two_updates s xs ys = two_by s xs ys (known s.variant) (marked s.length s.tail_len) refl refl

-- so do updates with any list of chunks
pub updates_joined : UpdatesJoined
unfolding updates joined
updates_joined s xs [] = rw (append-nil xs)
updates_joined s xs (ys ∷ xss) = updates_joined (updated s xs).state ys xss ∙ two_updates s xs (ys ++ joined xss)

-- and so two cuttings of the same bytes are answered alike
pub cuttings_alike : CuttingsAlike
cuttings_alike s xs ys xss yss e = updates_joined s xs xss ∙ ap (updated s) e ∙ sym (updates_joined s ys yss)
