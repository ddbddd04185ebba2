-- The digits of a row of bytes in two rows, the high ones apart from the low ones, and two rows in turn: how the writer makes
-- them. Only private functions cite this.
-- Assumes nothing.
use Rattle.std.specs.Prelude.{List, [], ◌∷◌, ◌++◌, map, ℕ, ◌-◌, ◌/◌, ◌%◌, length, replicate}
use Rattle.text.specs.declared.Rows.{Rows}
use Rattle.text.specs.Text.{digit_of}

-- the digits of a row of bytes, the high ones apart from the low ones, each with 0 up to 64
unfoldable pub rows_of : List ℕ → Rows
rows_of bs =
    record {
      high = map (λ (b : ℕ). digit_of (b / 16)) bs ++ replicate (64 - length bs) 0;
      low = map (λ (b : ℕ). digit_of (b % 16)) bs ++ replicate (64 - length bs) 0;
    }

-- two rows in turn
abbrev pub in_turn : List ℕ → List ℕ → List ℕ
in_turn [] ys = []
in_turn (x ∷ xs) [] = []
in_turn (x ∷ xs) (y ∷ ys) = x ∷ y ∷ in_turn xs ys
