-- What one byte does, by its three cases; what a list of bytes does, cut anywhere; and what a list keeps that each byte keeps.
-- Assumes nothing.
use mathlib.Core.Path.{◌≡◌, refl, ◌∙◌, ap, subst, sym}
use mathlib.Core.List.{List, [], ◌∷◌, ◌++◌}
use Prim.Native.Nat.{ℕ, ◌≤◌, ◌<◌}
use native.Mathlib.Omega.{arith}
use native.Mathlib.Decide.{dec_lt}
use borrow.Author.Tests.{lt-ltb, le-ltb}
use lib.ListN.{take, drop, take-append-drop}
use Rattle.generate.specs.declared.State.{State}
use Rattle.generate.specs.Feed.{filled, slid, stop, step, feed}

module _ (s : State) (b : ℕ) where
  -- a byte to a tail that is not full fills it
  pub step_filled : s.tail_len < 4 → step s b ≡ filled s b
  unfolding step
  step_filled h = rw (lt-ltb s.tail_len 4 h)

  -- a later byte below the stop is counted
  pub step_slid : 4 ≤ s.tail_len → s.length < stop → step s b ≡ slid s b
  unfolding step
  step_slid h k = rw (le-ltb s.tail_len 4 h, lt-ltb s.length stop k)

  -- a byte past the stop changes nothing
  pub step_stopped : 4 ≤ s.tail_len → stop ≤ s.length → step s b ≡ s
  unfolding step
  step_stopped h k = rw (le-ltb s.tail_len 4 h, le-ltb s.length stop k)

  module _ (P : State → Type 0) (p : s.tail_len < 4 → P (filled s b))
      (q : 4 ≤ s.tail_len → s.length < stop → P (slid s b)) (r : 4 ≤ s.tail_len → stop ≤ s.length → P s) where
    -- the three cases, decided
    cases : Dec (s.tail_len < 4) → Dec (s.length < stop) → P (step s b)
    cases (yes h) d = subst P (sym (step_filled h)) (p h)
    cases (no h) (yes k) = subst P (sym (step_slid (omega arith) k)) (q (omega arith) k)
    cases (no h) (no k) = subst P (sym (step_stopped (omega arith) (omega arith))) (r (omega arith) (omega arith))

    -- what holds in each of the three cases holds after a byte
    pub by_step : P (step s b)
    by_step = cases (dec_lt _ _) (dec_lt _ _)

-- a list that is cut in two leads to the same state
pub cut : (xs ys : List ℕ) (s : State) → feed (xs ++ ys) s ≡ feed ys (feed xs s)
unfolding feed
cut [] ys s = refl
cut (x ∷ xs) ys s = cut xs ys (step s x)

-- so does one that is cut after n bytes
pub cut_at : (n : ℕ) (xs : List ℕ) (s : State) → feed xs s ≡ feed (drop n xs) (feed (take n xs) s)
cut_at n xs s = rw (take-append-drop n xs) at (cut (take n xs) (drop n xs) s)

-- bytes past the stop change nothing
pub past_the_stop : (xs : List ℕ) (s : State) → 4 ≤ s.tail_len → stop ≤ s.length → feed xs s ≡ s
unfolding feed
past_the_stop [] s h k = refl
past_the_stop (x ∷ xs) s h k = ap (feed xs) (step_stopped s x h k) ∙ past_the_stop xs s h k

-- what each byte keeps, a list of bytes keeps
pub feed_keeps : (P : State → Type 0) → ((s : State) (b : ℕ) → P s → P (step s b)) → (bs : List ℕ) (s : State) → P s
    → P (feed bs s)
unfolding feed
feed_keeps P f [] s p = p
feed_keeps P f (b ∷ bs) s p = feed_keeps P f bs (step s b) (f s b p)
