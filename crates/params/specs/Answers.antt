-- The number of each answer (docs/RULES.md, section 6). Every number but 0 is a refusal.
-- Assumes nothing.
use Rattle.std.specs.Prelude.{ℕ, Result, Ok, Err}
use Rattle.params.specs.declared.Refusal.{Refusal}
use Rattle.params.specs.declared.Refusal.TheVariants as R

-- the answer is given
abbrev pub done : ℕ
done = 0

-- `TooLargeInput`: the input is longer than the variant takes
abbrev pub too_large_input : ℕ
too_large_input = 1

-- `TooSmallInput`: the input is shorter than the variant and the mode take
abbrev pub too_small_input : ℕ
too_small_input = 2

-- `BucketsAreThreeQuarterEmpty`: the third quartile is 0
abbrev pub three_quarter_empty : ℕ
three_quarter_empty = 3

-- `BucketsAreHalfEmpty`: too few used counters are not 0
abbrev pub half_empty : ℕ
half_empty = 4

-- no length code
abbrev pub no_length_code : ℕ
no_length_code = 5

-- the variant is not 48, 128 or 256
abbrev pub unknown_variant : ℕ
unknown_variant = 6

-- the destination is shorter than the text
abbrev pub short_destination : ℕ
short_destination = 7

-- the text is of the wrong size
abbrev pub wrong_size : ℕ
wrong_size = 8

-- the text doesn't begin `T1`, or a character isn't 0-9 or A-F
abbrev pub wrong_character : ℕ
wrong_character = 9

-- an unknown option bit
abbrev pub unknown_option : ℕ
unknown_option = 10

-- the quartiles are not ordered, or q3 is 0
abbrev pub unordered_quartiles : ℕ
unordered_quartiles = 11

-- the digests are of different variants
abbrev pub unlike_digests : ℕ
unlike_digests = 12

-- a state that no bytes can reach, by the three marks
abbrev pub unreached_state : ℕ
unreached_state = 19

-- the number of each refusal
abbrev pub number_of : Refusal → ℕ
number_of R.TooLargeInput = too_large_input
number_of R.TooSmallInput = too_small_input
number_of R.ThreeQuarterEmpty = three_quarter_empty
number_of R.HalfEmpty = half_empty
number_of R.NoLengthCode = no_length_code
number_of R.UnknownVariant = unknown_variant
number_of R.ShortDestination = short_destination
number_of R.WrongSize = wrong_size
number_of R.WrongCharacter = wrong_character
number_of R.UnknownOption = unknown_option
number_of R.UnorderedQuartiles = unordered_quartiles
number_of R.UnlikeDigests = unlike_digests
number_of R.UnreachedState = unreached_state

-- the number of an answer
abbrev pub answer_number : {A : Type 0} → Result A Refusal → ℕ
answer_number (Ok a) = done
answer_number (Err e) = number_of e
