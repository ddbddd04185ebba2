-- The parts of an update's bytes: those that fill the tail, those that are counted, and those past the stop.
-- Assumes nothing.
use mathlib.Core.Logic.{◌≢◌}
use mathlib.Core.Path.{◌≡◌, refl, ◌∙◌, ap, sym}
use mathlib.Core.List.{List, [], ◌∷◌}
use Prim.Native.Nat.{ℕ, zero, suc, ◌+◌, ◌-◌, ◌≤◌, ◌<◌, min}
use native.Mathlib.Nat.{add-zero}
use native.Mathlib.Omega.{arith}
use native.Mathlib.Decide.{dec_lt}
use lib.ListN.{length, get_or, set, take, drop, length-take, drop_of_length-le}
use lib.Seq.{sets, take-nil}
use Rattle.counting.specs.declared.Window.{Window}
use Rattle.counting.specs.Window.{moved, moves, hit, hits, Ran}
use Rattle.counting.proofs.Laws.{next}
use Rattle.generate.specs.declared.State.{State}
use Rattle.generate.specs.Feed.{filled, slid, stop, feed}
use Rattle.generate.specs.Parts.{Opened}
use Rattle.generate.proofs.Step.{step_filled, step_slid, past_the_stop}

-- a state with another tail and tail length
abbrev tailed : State → List ℕ → ℕ → State
tailed s t n =
    record {
      counters = s.counters;
      variant = s.variant;
      length = s.length;
      checksum = s.checksum;
      tail = t;
      tail_len = n;
    }

-- bytes that have room in the tail are stored there
fill_feed : (xs : List ℕ) (s : State) → s.tail_len + length xs ≤ 4
    → feed xs s ≡ tailed s (sets s.tail s.tail_len xs) (s.tail_len + length xs)
unfolding feed filled
fill_feed [] s h = rw (add-zero s.tail_len)
fill_feed (x ∷ xs) s h =
    let e : s.tail_len + 1 ≡ suc s.tail_len = omega arith in
    let f : suc s.tail_len + length xs ≡ s.tail_len + suc (length xs) = omega arith in
    ap (feed xs) (step_filled s x (omega arith)) ∙ fill_feed xs (filled s x) (omega arith) ∙ rw (e, f)

-- of any bytes those that the tail lacks are stored there
pub tail_filled : (s : State) (bs u : List ℕ) (n : ℕ) → s.tail_len ≤ 4 → n ≡ min (length bs) (4 - s.tail_len)
    → u ≡ sets s.tail s.tail_len (take n bs) → tailed s u (s.tail_len + n) ≡ feed (take n bs) s
tail_filled s bs u n h e f =
    let k : length (take n bs) ≡ n = omega (arith, length-take n bs) in
    rw (f, fill_feed (take n bs) s (omega (arith, k)), k)

-- what the loop over those bytes keeps: with the bytes that are left stored behind, the tail is the one with all of them
pub record Fills (t : List ℕ) (n : ℕ) (xs : List ℕ) (i : ℕ) (u : List ℕ) : Type 0 where
  pub far : i ≤ length xs
  pub same : sets u (n + i) (drop i xs) ≡ sets t n xs

-- before the first byte it is the tail itself
pub fills_none : (t : List ℕ) (n : ℕ) (xs : List ℕ) → Fills t n xs 0 t
fills_none t n xs = record { far = omega arith; same = rw (add-zero n) }

module _ {t : List ℕ} {n : ℕ} {xs : List ℕ} {i : ℕ} {u : List ℕ} (p : Fills t n xs i u) where
  -- one byte more is stored behind the others
  pub fills_more : i < length xs → Fills t n xs (i + 1) (set u (n + i) (get_or xs i 0))
  fills_more h =
      let e : n + (i + 1) ≡ suc (n + i) = omega arith in
      record { far = omega arith; same = rw e (rw (next xs i h) at p.same) }

  -- after the last byte all are stored
  pub fills_all : length xs ≤ i → u ≡ sets t n xs
  fills_all h = rw (drop_of_length-le xs {i = i} h) at p.same

-- the state of a variant, a length field, a tail length, counters and a window
abbrev whole : ℕ → ℕ → ℕ → List ℕ → Window → State
whole v l k cs w =
    record {
      counters = cs;
      variant = v;
      length = l;
      checksum = w.checksum;
      tail = w.b0 ∷ w.b1 ∷ w.b2 ∷ w.b3 ∷ [];
      tail_len = k;
    }

-- a later byte moves the window on and counts
slid_whole : (v l k : ℕ) (cs : List ℕ) (w : Window) (b : ℕ) → slid (whole v l k cs w) b ≡ whole v (l + 1) k (hit v w cs b) (moved v w b)
unfolding slid hit moved
slid_whole v l k cs w b = refl

-- of the bytes to a full tail, the m that the length field has room for are counted
count_feed : (ys : List ℕ) (v l m k : ℕ) (cs : List ℕ) (w : Window) → 4 ≤ k → l ≤ stop → m ≡ min (length ys) (stop - l)
    → feed ys (whole v l k cs w) ≡ whole v (l + m) k (hits v (take m ys) w cs) (moves v (take m ys) w)
unfolding feed moves hits
count_feed [] v l m k cs w h q e =
    let z : l + m ≡ l = omega arith in
    rw (take-nil m, z)
count_feed (y ∷ ys) v l zero k cs w h q e =
    rw (add-zero l) (past_the_stop (y ∷ ys) (whole v l k cs w) h (omega arith))
count_feed (y ∷ ys) v l (suc m) k cs w h q e =
    let z : l + 1 + m ≡ l + suc m = omega arith in
    ap (feed ys) (step_slid (whole v l k cs w) y h (omega arith) ∙ slid_whole v l k cs w y)
    ∙ count_feed ys v (l + 1) m k (hit v w cs y) (moved v w y) h (omega arith) (omega arith)
    ∙ rw z

-- so the bytes behind a full tail are counted, and the rest comes past the stop; with no byte the tail need not be full
pub counted_feed : (s : State) (bs cs : List ℕ) (n : ℕ) (w w' : Window) → (bs ≢ [] → s.tail_len ≡ 4) → s.length ≤ stop
    → n ≡ min (length bs) (stop - s.length) → Opened s w → Ran s.variant (take n bs) s.counters w cs w'
    → whole s.variant (s.length + n) s.tail_len cs w' ≡ feed bs s
unfolding feed moves hits
counted_feed s [] cs n w w' full h e o r =
    let z : s.length + n ≡ s.length = omega arith in
    rw (r.window, r.counters, take-nil n, z, o.sum, o.bytes)
counted_feed s (b ∷ bs) cs n w w' full h e o r =
    let k : 4 ≤ s.tail_len = omega (arith, full (λ p. absurd cc)) in
    let same : s ≡ whole s.variant s.length s.tail_len s.counters w = rw (o.sum, o.bytes) in
    rw (r.window, r.counters) (sym (ap (feed (b ∷ bs)) same ∙ count_feed (b ∷ bs) s.variant s.length n s.tail_len s.counters w k h e))

-- after the bytes that the tail lacks the tail is full, or no byte is left; the length field has stayed
pub filled_full : (s t : State) (bs : List ℕ) (n : ℕ) → s.tail_len ≤ 4 → n ≡ min (length bs) (4 - s.tail_len) → t ≡ feed (take n bs) s
    → (take (length bs - n) (drop n bs) ≢ [] → t.tail_len ≡ 4) × (t.length ≡ s.length)
filled_full s t bs n h e f =
    let k : length (take n bs) ≡ n = omega (arith, length-take n bs) in
    let g = fill_feed (take n bs) s (omega (arith, k)) in
    rw (f, g)
    ((λ p. by p (dec_lt (s.tail_len + length (take n bs)) 4)), refl)
  where
    by : (take (length bs - n) (drop n bs) ≢ []) → Dec (s.tail_len + length (take n bs) < 4) → s.tail_len + length (take n bs) ≡ 4
    by p (no l) = omega (arith, length-take n bs)
    by p (yes l) = absurd (p (rw (drop_of_length-le bs {i = n} (omega (arith, length-take n bs)), take-nil (length bs - n))))
