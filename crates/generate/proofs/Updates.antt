-- What an update does: it refuses and leaves the state, or feeds it.
-- Assumes nothing.
use mathlib.Core.Path.{◌≡◌, ap}
use mathlib.Core.Logic.{◌≢◌}
use mathlib.Core.List.{List, []}
use Prim.Native.Nat.{ℕ, ◌-◌, ◌≤◌, min}
use native.Mathlib.Omega.{arith}
use lib.ListN.{length, take, drop, length-drop}
use lib.Seq.{take_all}
use Rattle.std.specs.Prelude.{Ok, Err}
use Rattle.params.specs.declared.Refusal.{Refusal}
use Rattle.generate.specs.declared.State.{State}
use Rattle.generate.specs.Feed.{stop, feed}
use Rattle.generate.specs.Answer.{Updated, updated}
use Rattle.generate.proofs.Step.{cut_at}
use Rattle.generate.proofs.Marks.{Fine, unmarked_fine}
use Rattle.generate.proofs.Answers.{Judges, refused, answered, admitted}
use Rattle.generate.proofs.Parts.{filled_full}

-- where a state is refused, the update is, and the state stays
pub updated_refused : (s : State) (bs : List ℕ) (e : Refusal) → Judges s (Err e) → record { answer = Err e; state = s } ≡ updated s bs
unfolding updated
updated_refused s bs e h = refused s (λ x. record { answer = Err x; state = s }) (record { answer = Ok (tt {0}); state = feed bs s }) e h

-- and where it is not, it is fed
pub updated_fed : (s : State) (bs : List ℕ) → Judges s (Ok (tt {0})) → record { answer = Ok (tt {0}); state = feed bs s } ≡ updated s bs
unfolding updated
updated_fed s bs h = answered s (λ x. record { answer = Err x; state = s }) (record { answer = Ok (tt {0}); state = feed bs s }) h

-- such a state has a tail length and a length field in their bounds
module _ (s : State) (h : Judges s (Ok (tt {0}))) where
  fine : Fine s.length s.tail_len
  fine = unmarked_fine s.length s.tail_len (admitted s h).1

  pub few : s.tail_len ≤ 4
  few = fine.few

module _ (s : State) (bs : List ℕ) where
  pub answer_refused : (e : Refusal) → Judges s (Err e) → Err e ≡ (updated s bs).answer
  answer_refused e h = ap (λ (u : Updated). u.answer) (updated_refused s bs e h)

  pub state_refused : (e : Refusal) → Judges s (Err e) → s ≡ (updated s bs).state
  state_refused e h = ap (λ (u : Updated). u.state) (updated_refused s bs e h)

  module _ (h : Judges s (Ok (tt {0}))) where
    pub answer_fed : Ok (tt {0}) ≡ (updated s bs).answer
    answer_fed = ap (λ (u : Updated). u.answer) (updated_fed s bs h)

    -- the first bytes fill the tail
    module _ (t : State) (n : ℕ) (e : n ≡ min (length bs) (4 - s.tail_len)) (f : t ≡ feed (take n bs) s) where
      pub full_or_none : take (length bs - n) (drop n bs) ≢ [] → t.tail_len ≡ 4
      full_or_none = (filled_full s t bs n (few s h) e f).0

      pub still_stops : t.length ≤ stop
      still_stops = rw (filled_full s t bs n (few s h) e f).1 (fine s h).stops

      -- and the others come to it
      pub state_fed : (u : State) → u ≡ feed (take (length bs - n) (drop n bs)) t → u ≡ (updated s bs).state
      state_fed u g =
          let all : take (length bs - n) (drop n bs) ≡ drop n bs = take_all (length bs - n) (drop n bs) (omega (arith, length-drop n bs)) in
          rw (g, all, f, ← cut_at n bs s) (ap (λ (u : Updated). u.state) (updated_fed s bs h))
