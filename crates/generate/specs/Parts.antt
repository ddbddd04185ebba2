-- The parts of an update's bytes: the window that the tail opens, and how many go through the fast loop. Only private functions cite
-- this.
-- Assumes nothing.
use Rattle.std.specs.Prelude.{◌≡◌, [], ◌∷◌, ℕ, ◌%◌, ◌≤◌}
use Rattle.counting.specs.declared.Window.{Window}
use Rattle.generate.specs.declared.State.{State}

-- w is the window of a state's checksum and tail
pub record Opened (s : State) (w : Window) : Type 0 where
  pub sum : w.checksum ≡ s.checksum
  pub bytes : w.b0 ∷ w.b1 ∷ w.b2 ∷ w.b3 ∷ [] ≡ s.tail

-- m of n bytes, some fours
pub record Fours (n m : ℕ) : Type 0 where
  pub most : m ≤ n
  pub whole : m % 4 ≡ 0
