-- Which states are refused, and that the others are answered.
-- Assumes nothing.
use mathlib.Core.Path.{◌≡◌, refl}
use mathlib.Core.Bool.{Bool, true, false}
use Rattle.std.specs.Prelude.{Result, Ok, Err}
use Rattle.params.specs.declared.Refusal.{Refusal}
use Rattle.params.specs.Variants.{known}
use Rattle.generate.specs.declared.State.{State}
use Rattle.generate.specs.Answer.{marked, judged}

-- the judgement of a state is r
abbrev pub Judges : State → Result (Unit {0}) Refusal → Type 0
Judges s r = r ≡ judged s Err (Ok (tt {0}))

-- what is answered where a state is refused, and where it is not, its two tests decided
module _ (s : State) {A : Type 0} (f : Refusal → A) (a : A) where
  refused_by : (k m : Bool) → known s.variant ≡ k → marked s.length s.tail_len ≡ m → (e : Refusal) → Judges s (Err e) → f e ≡ judged s f a
  refused_by false m p q e h = let g = rw p at h in rw p cc
  refused_by true true p q e h = let g = rw (p, q) at h in rw (p, q) cc
  refused_by true false p q e h = let g = rw (p, q) at h in absurd cc

  -- where a state is refused, that is the answer
  pub refused : (e : Refusal) → Judges s (Err e) → f e ≡ judged s f a
  refused = refused_by (known s.variant) (marked s.length s.tail_len) refl refl

  answered_by : (k m : Bool) → known s.variant ≡ k → marked s.length s.tail_len ≡ m → Judges s (Ok (tt {0})) → a ≡ judged s f a
  answered_by false m p q h = let g = rw p at h in absurd cc
  answered_by true true p q h = let g = rw (p, q) at h in absurd cc
  answered_by true false p q h = rw (p, q)

  -- and where it is not, it is answered
  pub answered : Judges s (Ok (tt {0})) → a ≡ judged s f a
  answered = answered_by (known s.variant) (marked s.length s.tail_len) refl refl

module _ (s : State) where
  admitted_by : (k m : Bool) → known s.variant ≡ k → marked s.length s.tail_len ≡ m → Judges s (Ok (tt {0}))
      → (k ≡ true) × (m ≡ false)
  admitted_by false m p q h = let g = rw p at h in absurd cc
  admitted_by true true p q h = let g = rw (p, q) at h in absurd cc
  admitted_by true false p q h = (refl, refl)

  -- a state that is not refused has a known variant and no mark
  pub admitted : Judges s (Ok (tt {0})) → (known s.variant ≡ true) × (marked s.length s.tail_len ≡ false)
  admitted = admitted_by (known s.variant) (marked s.length s.tail_len) refl refl

-- these, for what a question answers
pub ruleset judging = (refused, answered)
