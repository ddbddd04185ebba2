-- What a list of later bytes does, on the counters where they lie and on a small struct: the checksum and the last four bytes.
-- Assumes nothing.
use Rattle.std.specs.Prelude.{◌≡◌, ℕ, List, [], ◌∷◌}
use Rattle.counting.specs.declared.Window.{Window}
use Rattle.counting.specs.Count.{checked, counted}

-- the window after a byte
unfoldable pub moved : ℕ → Window → ℕ → Window
moved v w b = record { checksum = checked v w.checksum b w.b3; b0 = w.b1; b1 = w.b2; b2 = w.b3; b3 = b }

-- the window after a list of bytes
unfoldable pub moves : ℕ → List ℕ → Window → Window
moves v [] w = w
moves v (b ∷ bs) w = moves v bs (moved v w b)

-- the counters after a byte that comes to a window
unfoldable pub hit : ℕ → Window → List ℕ → ℕ → List ℕ
hit v w cs b = counted v cs b w.b3 w.b2 w.b1 w.b0

-- the counters after a list of bytes
unfoldable pub hits : ℕ → List ℕ → Window → List ℕ → List ℕ
hits v [] w cs = cs
hits v (b ∷ bs) w cs = hits v bs (moved v w b) (hit v w cs b)

-- counters cs and a window w become cs' and w' by later bytes
pub record Ran (v : ℕ) (bs cs : List ℕ) (w : Window) (cs' : List ℕ) (w' : Window) : Type 0 where
  pub window : w' ≡ moves v bs w
  pub counters : cs' ≡ hits v bs w cs
