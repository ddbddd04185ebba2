-- The laws of one later byte, and of later bytes one by one: what is left of the bytes leads to the same end.
-- Assumes nothing.
use Rattle.std.proofs.Common.{◌≡◌, ℕ, ◌+◌, ◌<◌, ◌≤◌, List, [], ◌∷◌, ◌++◌, length, get_or, drop, refl, add-one, arith, drop_of_length-le, drop-cons}
use Rattle.counting.specs.declared.Window.{Window}
use Rattle.counting.specs.Window.{moved, moves, hit, hits, Ran}

-- what is left after i bytes: the byte at i, and what is left after one more
pub next : (xs : List ℕ) (i : ℕ) → i < length xs → drop i xs ≡ get_or xs i 0 ∷ drop (i + 1) xs
next xs i h = rw (add-one i) (drop-cons xs i 0 h)

-- counters cs₀ and a window w₀ have become cs and w by i of the bytes xs
pub record Runs (v : ℕ) (xs cs₀ : List ℕ) (w₀ : Window) (i : ℕ) (cs : List ℕ) (w : Window) : Type 0 where
  pub far : i ≤ length xs
  pub window : moves v (drop i xs) w ≡ moves v xs w₀
  pub counters : hits v (drop i xs) w cs ≡ hits v xs w₀ cs₀

-- before the first byte nothing has changed
pub runs_none : (v : ℕ) (xs cs : List ℕ) (w : Window) → Runs v xs cs w 0 cs w
runs_none v xs cs w = record { far = omega arith; window = refl; counters = refl }

module _ {v : ℕ} {xs cs₀ : List ℕ} {w₀ : Window} {i : ℕ} {cs : List ℕ} {w : Window} (p : Runs v xs cs₀ w₀ i cs w) where
  -- one byte more
  pub runs_more : i < length xs → {cs' : List ℕ} {w' : Window} → Ran v (get_or xs i 0 ∷ []) cs w cs' w'
      → Runs v xs cs₀ w₀ (i + 1) cs' w'
  unfolding moves hits
  runs_more h q =
      record {
        far = omega arith;
        window = rw q.window (rw (next xs i h) at p.window);
        counters = rw (q.window, q.counters) (rw (next xs i h) at p.counters);
      }

  -- after the last byte nothing is left
  pub runs_all : length xs ≤ i → Ran v xs cs₀ w₀ cs w
  unfolding moves hits
  runs_all h =
      record {
        window = rw (drop_of_length-le xs {i = i} h) at p.window;
        counters = rw (drop_of_length-le xs {i = i} h) at p.counters;
      }

-- the window and the counters after a list that is cut in two
pub moves_cut : (v : ℕ) (xs ys : List ℕ) (w : Window) → moves v (xs ++ ys) w ≡ moves v ys (moves v xs w)
unfolding moves
moves_cut v [] ys w = refl
moves_cut v (x ∷ xs) ys w = moves_cut v xs ys (moved v w x)

pub hits_cut : (v : ℕ) (xs ys : List ℕ) (w : Window) (cs : List ℕ) → hits v (xs ++ ys) w cs ≡ hits v ys (moves v xs w) (hits v xs w cs)
unfolding moves hits
hits_cut v [] ys w cs = refl
hits_cut v (x ∷ xs) ys w cs = hits_cut v xs ys (moved v w x) (hit v w cs x)
