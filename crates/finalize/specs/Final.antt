-- Finalizing, in the order of its steps (docs/RULES.md, sections 4 and 6). The state is only read.
-- Assumes nothing.
use Rattle.std.specs.Prelude.{ℕ, Bool, cond, List, ltb, eqb, take, Option, unwrap_or, Result, Ok, Err}
use Rattle.params.specs.Words.{unless, and_then}
use Rattle.params.specs.declared.Refusal.{Refusal}
use Rattle.params.specs.declared.Refusal.TheVariants.{TooLargeInput, TooSmallInput, ThreeQuarterEmpty, HalfEmpty}
use Rattle.length.specs.Code.{coded}
use Rattle.length.specs.Limits.{minimum, maximum}
use Rattle.quartile.specs.declared.Quartiles.{Quartiles}
use Rattle.quartile.specs.Quartile.{quartiles}
use Rattle.quartile.specs.Counts.{non_zero}
use Rattle.qratios.specs.Ratios.{ratios_byte}
use Rattle.body.specs.Body.{body_of}
use Rattle.hash.specs.declared.Digest.{Digest}
use Rattle.generate.specs.declared.State.{State}
use Rattle.generate.specs.Feed.{fresh, feed}
use Rattle.generate.specs.Answer.{processed}
use Rattle.options.specs.declared.Options.{Options}
use Rattle.options.specs.Options.{chosen}

-- ---- 1. the length

-- a processed length that is unknown counts as 4,294,967,295
abbrev pub counts_as : Option ℕ → ℕ
counts_as n = unwrap_or n 4_294_967_295

-- above the maximum, in either mode
unfoldable pub is_too_large : ℕ → ℕ → Bool
is_too_large v n = ltb (maximum v) n

-- below the minimum of the mode, unless the small-file option is set
unfoldable pub is_too_small : ℕ → ℕ → Options → Bool
is_too_small v n o = unless o.small (ltb n (minimum v o.conservative))

-- ---- 4. and 5. empty counters

-- the third quartile is 0, unless the quarter option is set
unfoldable pub is_three_quarter_empty : Quartiles → Options → Bool
is_three_quarter_empty q o = unless o.quarter (eqb q.q3 0)

-- where it is, all three become 1
unfoldable pub replaced : Quartiles → Quartiles
replaced q = cond (eqb q.q3 0) (record { q1 = 1; q2 = 1; q3 = 1 }) q

-- the least number of used counters that are not 0: 18, 65 or 129
unfoldable pub least_non_zero : ℕ → ℕ
least_non_zero v = cond (eqb v 48) 18 (cond (eqb v 128) 65 129)

-- fewer are, unless the half or the quarter option is set
unfoldable pub is_half_empty : List ℕ → ℕ → Options → Bool
is_half_empty used v o = unless o.half (unless o.quarter (ltb (non_zero used) (least_non_zero v)))

-- ---- 6. and 7. the record

-- the digest by the quartiles q, which are not all 0
unfoldable pub digest_by : Quartiles → List ℕ → ℕ → ℕ → ℕ → Bool → Digest
digest_by q used v checksum code integer =
    record {
      body = body_of q used;
      variant = v;
      checksum = checksum;
      length_code = code;
      ratios = ratios_byte integer q.q1 q.q2 q.q3;
    }

-- ---- the steps together

-- steps 3 to 7, on the used counters, the quartile test before the count
unfoldable pub distributed : List ℕ → ℕ → ℕ → ℕ → Options → Result Digest Refusal
distributed used v checksum code o =
    cond (is_three_quarter_empty (quartiles used) o) (Err ThreeQuarterEmpty)
    (cond (is_half_empty used v o) (Err HalfEmpty)
    (Ok (digest_by (replaced (quartiles used)) used v checksum code o.integer)))

-- step 2: the code of the length, or its refusal; then the steps after it, on the N used counters
unfoldable pub with_code : Result ℕ Refusal → State → Options → Result Digest Refusal
with_code l s o = and_then l (λ code. distributed (take s.variant s.counters) s.variant s.checksum code o)

-- step 1: the length n; then the steps after it
unfoldable pub measured : ℕ → State → Options → Result Digest Refusal
measured n s o =
    cond (is_too_large s.variant n) (Err TooLargeInput)
    (cond (is_too_small s.variant n o) (Err TooSmallInput)
    (with_code (coded n) s o))

-- from what the processed length is: 6 for another variant, then 19 for a state that no bytes reach, then the steps
unfoldable pub with_length : Result (Option ℕ) Refusal → State → Options → Result Digest Refusal
with_length a s o = and_then a (λ n. measured (counts_as n) s o)

-- a state under five flags
unfoldable pub finalized_with : State → Options → Result Digest Refusal
finalized_with s o = with_length (processed s) s o

-- 10 before them
unfoldable pub finalized_by : Result Options Refusal → State → Result Digest Refusal
finalized_by c s = and_then c (λ o. finalized_with s o)

-- a state under an option number
unfoldable pub finalized : State → ℕ → Result Digest Refusal
finalized s n = finalized_by (chosen n) s

-- ---- from bytes

-- the digest of a list of bytes, or its refusal, under a variant and an option number
unfoldable pub digest_of : ℕ → ℕ → List ℕ → Result Digest Refusal
digest_of v n bytes = finalized (feed bytes (fresh v)) n
