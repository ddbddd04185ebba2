-- The states that no bytes reach, and what is answered (docs/RULES.md, sections 3 and 6).
-- Assumes nothing.
use Rattle.std.specs.Prelude.{Bool, cond, not, ◌&&◌, ◌||◌, List, ℕ, ◌+◌, ◌^◌, ltb, eqb, Option, None, Some, Result, Ok, Err}
use Rattle.params.specs.declared.Refusal.{Refusal}
use Rattle.params.specs.declared.Refusal.TheVariants.{UnknownVariant, UnreachedState}
use Rattle.params.specs.Variants.{known}
use Rattle.generate.specs.declared.State.{State}
use Rattle.generate.specs.Feed.{fresh, stop, feed}

-- the three marks of a length field l and a tail length n that no bytes reach: a tail length above 4, a length field above its
-- stop, or a length field other than 0 beside a tail length below 4
unfoldable pub marked : ℕ → ℕ → Bool
marked l n = ltb 4 n || ltb stop l || not (eqb l 0) && ltb n 4

-- what a state is answered: 6 where its variant is none of the three, then 19 where it has a mark, and else the answer
abbrev pub judged : {A : Type 0} → State → (Refusal → A) → A → A
judged s refused answer =
    cond (known s.variant)
    (cond (marked s.length s.tail_len) (refused UnreachedState) answer)
    (refused UnknownVariant)

-- what `new` answers: the fresh state of a variant
unfoldable pub new_answer : ℕ → Result State Refusal
new_answer v = cond (known v) (Ok (fresh v)) (Err UnknownVariant)

-- what an update answers, and the state after it
pub record Updated : Type 0 where
  pub answer : Result (Unit {0}) Refusal
  pub state : State

-- what `update` does: where it refuses, the state stays as it was
unfoldable pub updated : State → List ℕ → Updated
updated s bs = judged s (λ e. record { answer = Err e; state = s }) (record { answer = Ok tt; state = feed bs s })

-- the processed length: the length field and the tail length
abbrev pub total : State → ℕ
total s = s.length + s.tail_len

-- what `processed_len` answers: no length where it reaches 2^32
unfoldable pub processed : State → Result (Option ℕ) Refusal
processed s = judged s Err (Ok (cond (ltb (total s) (2 ^ 32)) (Some (total s)) None))
