-- What the entry points answer, and what they leave in the lent memory (docs/RULES.md, sections 6 and 8).
-- A refusal leaves it as it was.
-- Assumes nothing.
use Rattle.std.specs.Prelude.{ℕ, cond, not, List, [], ◌∷◌, ltb, length, Result, Ok, Err}
use Rattle.params.specs.declared.Refusal.{Refusal}
use Rattle.params.specs.declared.Refusal.TheVariants.{UnknownVariant, ShortDestination, UnknownOption}
use Rattle.params.specs.Variants.{known}
use Rattle.params.specs.Words.{and_then}
use Rattle.options.specs.Options.{has_unknown_bit}
use Rattle.length.specs.Code.{coded}
use Rattle.qratios.specs.Single.{bits, whole}
use Rattle.qratios.specs.Ratios.{quotient, ratios_of}
use Rattle.hash.specs.declared.Digest.{Digest}
use Rattle.text.specs.Text.{text_size, Wrote, write_of}
use Rattle.parse.specs.Reading.{read_of}
use Rattle.compare.specs.Distance.{comparability, distance_of}
use Rattle.finalize.specs.Final.{digest_of}

-- a refusal, with the memory as it was
abbrev pub kept : Refusal → List ℕ → Wrote
kept e lent = record { answer = Err e; destination = lent }

-- what is written of the value of an answer; a refusal leaves the memory as it was
abbrev pub written_of : {A : Type 0} → Result A Refusal → (A → Wrote) → List ℕ → Wrote
written_of (Ok a) w lent = w a
written_of (Err e) w lent = kept e lent

-- the numbers that are written where nothing is refused
abbrev pub filled_with : List ℕ → Wrote
filled_with xs = record { answer = Ok tt; destination = xs }

-- the arguments of a one-shot digest: 10, then 6, then 7
unfoldable pub argument_answer : ℕ → ℕ → ℕ → Result (Unit {0}) Refusal
argument_answer v n room =
    cond (has_unknown_bit n) (Err UnknownOption)
    (cond (not (known v)) (Err UnknownVariant)
    (cond (ltb room (text_size v)) (Err ShortDestination) (Ok tt)))

-- the text of a finalized digest, or its refusal
abbrev pub given : Result Digest Refusal → List ℕ → Wrote
given f lent = written_of f (λ d. write_of d lent) lent

-- the one-shot digest: the arguments are judged, then the finalizing steps
unfoldable pub digested : ℕ → ℕ → List ℕ → List ℕ → Wrote
digested v n bytes lent = written_of (argument_answer v n (length lent)) (λ _. given (digest_of v n bytes) lent) lent

-- a text read and written again: 6, then 7, then the reader's 8 and 9
unfoldable pub rewritten : ℕ → List ℕ → List ℕ → Wrote
rewritten v text lent =
    cond (not (known v)) (kept UnknownVariant lent)
    (cond (ltb (length lent) (text_size v)) (kept ShortDestination lent)
    (given (read_of v text) lent))

-- the ratio record: the bits of both quotients, then both whole parts
unfoldable pub ratios_written : ℕ → ℕ → ℕ → List ℕ → Wrote
ratios_written q1 q2 q3 lent =
    written_of (ratios_of q1 q2 q3)
    (λ _. filled_with (bits (quotient q1 q3) ∷ bits (quotient q2 q3) ∷ whole (quotient q1 q3) ∷ whole (quotient q2 q3) ∷ []))
    lent

-- the code of a length
unfoldable pub code_written : ℕ → List ℕ → Wrote
code_written n lent = written_of (coded n) (λ code. filled_with (code ∷ [])) lent

-- the distance of the digests of two texts: 6, then 12, then the reader's 8 and 9 of the first text, then those of the second
unfoldable pub texts_distance : ℕ → List ℕ → ℕ → List ℕ → Result ℕ Refusal
texts_distance v s w t =
    and_then (comparability v w) (λ _. and_then (read_of v s) (λ a. and_then (read_of w t) (λ b. distance_of a b)))
