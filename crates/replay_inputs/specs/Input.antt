-- The inputs of the stored list (host/README.md, The stored list): byte i by its kind.
-- Assumes nothing.
use Rattle.std.specs.Prelude.{cond, List, [], ◌∷◌, ◌++◌, ℕ, zero, suc, ◌+◌, ◌*◌, ◌/◌, ◌%◌, eqb}
use Rattle.replay_pattern.specs.Pattern.{repeated}
use Rattle.replay_inputs.specs.declared.Input.{Input}

-- x after a draw
unfoldable pub drawn : ℕ → ℕ
drawn x = (x * 1_103_515_245 + 12_345) % 2_147_483_648

-- x after so many draws
abbrev pub drawn_times : ℕ → ℕ → ℕ
drawn_times zero x = x
drawn_times (suc n) x = drawn (drawn_times n x)

-- byte i, where x stands after its draw
unfoldable pub byte_by : Input → List ℕ → ℕ → ℕ → ℕ
byte_by n digits i x =
    cond (eqb n.kind 0) (repeated digits i)
    (cond (eqb n.kind 1) ((n.seed + i) % 256)
    (cond (eqb n.kind 2) (x / 65_536 % 256) (32 + x / 65_536 % (1 + n.seed % 64))))

-- byte i
abbrev pub input_byte : Input → List ℕ → ℕ → ℕ
input_byte n digits i = byte_by n digits i (drawn_times (suc i) n.seed)

-- m bytes from byte i on
abbrev pub input_bytes : Input → List ℕ → ℕ → ℕ → List ℕ
input_bytes n digits i zero = []
input_bytes n digits i (suc m) = input_bytes n digits i m ++ (input_byte n digits (i + m) ∷ [])
