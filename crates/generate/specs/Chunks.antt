-- Bytes in chunks (docs/RULES.md, section 3).
-- Assumes nothing.
use Rattle.std.specs.Prelude.{List, [], ◌∷◌, ◌++◌, ℕ}
use Rattle.generate.specs.declared.State.{State}
use Rattle.generate.specs.Feed.{feed}
use Rattle.generate.specs.Answer.{Updated, updated}

-- the chunks as one list of bytes
unfoldable pub joined : List (List ℕ) → List ℕ
joined [] = []
joined (xs ∷ xss) = xs ++ joined xss

-- the state after chunk upon chunk
unfoldable pub feeds : List (List ℕ) → State → State
feeds [] s = s
feeds (xs ∷ xss) s = feeds xss (feed xs s)

-- the answer to the last of several updates, each of the state that the one before gave back: the first with xs, then one for each of xss
unfoldable pub updates : State → List ℕ → List (List ℕ) → Updated
updates s xs [] = updated s xs
updates s xs (ys ∷ xss) = updates (updated s xs).state ys xss
