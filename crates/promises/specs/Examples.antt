-- The marked examples (docs/RULES.md, section 9): each question, worked out by the definitions, beside its answer.
-- Where a question has several answers, both sides list them in turn. The letters 'B' to 'E' are the bytes 66 to 69.
-- Assumes nothing.
use Rattle.std.specs.Prelude.{List, [], ◌∷◌, map, ◌≡◌, ℕ, true, false}
use Rattle.std.specs.Result.{result_unwrap_or}
use Rattle.pearson.specs.Mapping.{mapping, short, bucket}
use Rattle.length.specs.Code.{coded}
use Rattle.qratios.specs.Ratios.{integer_whole, floating_whole, ratio_by}

pub record Example : Type 0 where
  pub asked : List ℕ
  pub answer : List ℕ

unfoldable pub examples : List Example
examples =
    -- x of (2,'E','D','C'), and the same, short
    record { asked = mapping 2 69 68 67 ∷ []; answer = 181 ∷ [] } ∷
    record { asked = bucket 48 2 69 68 67 ∷ []; answer = 37 ∷ [] } ∷
    -- x of (3,'E','D','B'), and the same, short
    record { asked = mapping 3 69 68 66 ∷ []; answer = 105 ∷ [] } ∷
    record { asked = bucket 48 3 69 68 66 ∷ []; answer = 9 ∷ [] } ∷
    -- the short value for 239 and for 240
    record { asked = short 239 ∷ []; answer = 47 ∷ [] } ∷
    record { asked = short 240 ∷ []; answer = 48 ∷ [] } ∷
    -- the quotient for q 1 and q3 1, both ways, and its ratio; and for q3 2
    record { asked = integer_whole 1 1 ∷ floating_whole 1 1 ∷ ratio_by true 1 1 ∷ ratio_by false 1 1 ∷ []; answer = 100 ∷ 100 ∷ 4 ∷ 4 ∷ [] } ∷
    record { asked = integer_whole 1 2 ∷ floating_whole 1 2 ∷ ratio_by true 1 2 ∷ ratio_by false 1 2 ∷ []; answer = 50 ∷ 50 ∷ 2 ∷ 2 ∷ [] } ∷
    -- the largest third quartile whose product by 100 is below 2 ^ 24
    record { asked = integer_whole 167_772 167_772 ∷ floating_whole 167_772 167_772 ∷ []; answer = 100 ∷ 100 ∷ [] } ∷
    -- beyond 262,146 they may differ: here 100 * q is 99 * q3 less one, and the quotient rounds up. Demand 3 needs a bound on q3
    record { asked = integer_whole 297_098 300_099 ∷ floating_whole 297_098 300_099 ∷ []; answer = 98 ∷ 99 ∷ [] } ∷
    -- one above 42,949,672 the product by 100 rolls over in 32 bits, and they are not even within one
    record { asked = integer_whole 42_949_673 42_949_673 ∷ floating_whole 42_949_673 42_949_673 ∷ []; answer = 100 ∷ 0 ∷ [] } ∷
    -- the length code of 44 and of 50
    record { asked = result_unwrap_or (coded 44) 0 ∷ result_unwrap_or (coded 50) 0 ∷ []; answer = 9 ∷ 9 ∷ [] } ∷
    []

-- every question's answer is the one beside it
abbrev pub ExamplesHold : Type 0
ExamplesHold = map (λ (e : Example). e.asked) examples ≡ map (λ (e : Example). e.answer) examples
