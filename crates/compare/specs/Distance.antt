-- The distance of two digests (docs/RULES.md, section 12): what each pair of fields costs, their sum, and the refusals.
-- Assumes nothing.
use Rattle.std.specs.Prelude.{Bool, cond, not, ◌&&◌, ◌||◌, List, ℕ, zero, suc, ◌+◌, ◌-◌, ◌*◌, ◌/◌, ◌%◌, ◌^◌, min, leb, eqb, get_or, ◌≡◌, Result, Ok, Err, MatchResult}
use Rattle.params.specs.Variants.{known, buckets}
use Rattle.params.specs.declared.Variant.{Variant}
use Rattle.params.specs.declared.Refusal.{Refusal}
use Rattle.params.specs.declared.Refusal.TheVariants.{UnknownVariant, UnlikeDigests}
use Rattle.params.specs.Words.{apart}
use Rattle.hash.specs.declared.Digest.{Digest}
use Rattle.compare.specs.declared.Head.{Head}

-- ---- the body

-- one of two codes is 0 and the other 3
abbrev pub outermost : ℕ → ℕ → Bool
outermost a b = (eqb a 0 && eqb b 3) || (eqb a 3 && eqb b 0)

-- a pair of codes costs its difference, but 0 against 3 costs 6
unfoldable pub code_cost : ℕ → ℕ → ℕ
code_cost a b = cond (outermost a b) 6 (apart a b)

-- the code at place k of a body: four to a byte, lowest two bits first
unfoldable pub code_at : List ℕ → ℕ → ℕ
code_at body k = get_or body (k / 4) 0 / 4 ^ (k % 4) % 4

-- the first n codes of two bodies, each against the one at its place
unfoldable pub body_cost : ℕ → List ℕ → List ℕ → ℕ
body_cost zero x y = 0
body_cost (suc k) x y = body_cost k x y + code_cost (code_at x k) (code_at y k)

-- ---- the length code, the ratios and the checksum

-- the difference around a circle of n, the shorter way
abbrev pub around : ℕ → ℕ → ℕ → ℕ
around n a b = min (apart a b) (n - apart a b)

-- a difference of 0 or 1 costs itself, a larger one what is given for it
abbrev pub costs : ℕ → ℕ → ℕ
costs d larger = cond (leb d 1) d larger

-- a larger difference of the length codes costs 12 times itself
unfoldable pub length_cost : ℕ → ℕ → ℕ
length_cost a b = costs (around 256 a b) (12 * around 256 a b)

-- a larger difference d of a ratio costs 12 · (d - 1)
unfoldable pub ratio_cost : ℕ → ℕ → ℕ
ratio_cost a b = costs (around 16 a b) (12 * (around 16 a b - 1))

-- unequal checksums cost 1
unfoldable pub checksum_cost : ℕ → ℕ → ℕ
checksum_cost a b = cond (eqb a b) 0 1

-- ---- the sum, and the answer

-- a variant is its number of used codes; the ratio of q1 stands in the low four bits of `ratios`, that of q2 in the high four
unfoldable pub cost_of : Digest → Digest → ℕ
cost_of a b =
    body_cost a.variant a.body b.body
    + length_cost a.length_code b.length_code
    + ratio_cost (a.ratios % 16) (b.ratios % 16)
    + ratio_cost (a.ratios / 16) (b.ratios / 16)
    + checksum_cost a.checksum b.checksum

-- whether digests of two variants can be compared: 6 where one variant is unknown, then 12 where they differ
unfoldable pub comparability : ℕ → ℕ → Result (Unit {0}) Refusal
comparability v w = cond (not (known v && known w)) (Err UnknownVariant) (cond (not (eqb v w)) (Err UnlikeDigests) (Ok tt))

-- a number, where nothing is refused
abbrev pub answered : Result (Unit {0}) Refusal → ℕ → Result ℕ Refusal
answered (Ok u) n = Ok n
answered (Err e) n = Err e

-- the sum, where they can be compared
unfoldable pub distance_of : Digest → Digest → Result ℕ Refusal
distance_of a b = answered (comparability a.variant b.variant) (cost_of a b)

-- r is the variant that both numbers name, or why digests of the two cannot be compared
abbrev pub Shares : ℕ → ℕ → Result Variant Refusal → Type 0
Shares v w r = MatchResult r (λ u. (v ≡ buckets u) × (w ≡ buckets u)) (λ e. comparability v w ≡ Err e)

-- ---- a digest is its head and its body

abbrev pub head_of : Digest → Head
head_of d = record { variant = d.variant; checksum = d.checksum; length_code = d.length_code; ratios = d.ratios }

abbrev pub with_body : Head → List ℕ → Digest
with_body h body =
    record { body = body; variant = h.variant; checksum = h.checksum; length_code = h.length_code; ratios = h.ratios }

-- what two digests cost without their bodies
abbrev pub head_cost : Head → Head → ℕ
head_cost a b =
    length_cost a.length_code b.length_code
    + ratio_cost (a.ratios % 16) (b.ratios % 16)
    + ratio_cost (a.ratios / 16) (b.ratios / 16)
    + checksum_cost a.checksum b.checksum
