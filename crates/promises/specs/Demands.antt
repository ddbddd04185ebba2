-- What is promised of whole digests, as statements: when the two ratio paths agree, that a cutting does not matter, which number an
-- input gets, and that a digest that it gets is a record that the port makes and comes back from its text.
-- Assumes nothing.
use Rattle.std.specs.Prelude.{ℕ, ◌+◌, ◌-◌, ◌*◌, ◌≤◌, Bool, true, false, cond, List, ◌≡◌, ◌≢◌, ltb, eqb, length, get_or, take, Ok, IsOkAnd}
use Rattle.std.specs.Result.{result_unwrap_or}
use Rattle.params.specs.Words.{sum}
use Rattle.params.specs.Variants.{known}
use Rattle.params.specs.Answers.{done, too_large_input, too_small_input, three_quarter_empty, half_empty, unknown_variant, unknown_option}
use Rattle.params.specs.Answers.{answer_number}
use Rattle.length.specs.Limits.{maximum}
use Rattle.quartile.specs.Quartile.{quartiles}
use Rattle.qratios.specs.Demands.{light_third, agreeing_third}
use Rattle.body.specs.Body.{bytes_of}
use Rattle.hash.specs.declared.Digest.{Digest}
use Rattle.hash.specs.Digest.{zero_digest, Made}
use Rattle.text.specs.Text.{text_of, text_size}
use Rattle.parse.specs.Reading.{read_of}
use Rattle.generate.specs.declared.State.{State}
use Rattle.generate.specs.Feed.{fresh, feed}
use Rattle.generate.specs.Chunks.{joined, feeds}
use Rattle.options.specs.declared.Options.{Options}
use Rattle.options.specs.Options.{clear, flags, has, has_unknown_bit, chosen}
use Rattle.finalize.specs.Final.{is_too_small, is_three_quarter_empty, is_half_empty, finalized_with, finalized, digest_of}
use Rattle.saltcurtain.specs.Entries.{digested}

-- ---- when the two builds agree

-- the bound of Demand 3: up to this length the counting below shows a third quartile of at most 167,772
unfoldable pub bound : ℕ → ℕ
bound v = cond (eqb v 48) 363_512 (cond (eqb v 128) 922_755 1_817_544)

-- the farther bound: up to this length the counting shows one of at most 262,146, the largest up to which both ratio paths agree
unfoldable pub far_bound : ℕ → ℕ
far_bound v = cond (eqb v 48) 567_989 (cond (eqb v 128) 1_441_812 2_839_929)

-- the counting: 256 counters whose sum is at most what n bytes give have a third quartile of at most t, for every n within b
abbrev pub Counted : (ℕ → ℕ) → ℕ → Type 0
Counted b t = (v n : ℕ) (counters : List ℕ) → known v ≡ true → length counters ≡ 256 → sum counters ≤ 6 * (n - 4) → n ≤ b v
    → (quartiles (take v counters)).q3 ≤ t

-- it holds at both bounds
abbrev pub BoundCounted : Type 0
BoundCounted = Counted bound light_third

abbrev pub FarBoundCounted : Type 0
FarBoundCounted = Counted far_bound agreeing_third

-- for every input within b, options that differ in the ratio flag alone give the same digest or the same refusal
abbrev pub PathsAgreeWithin : (ℕ → ℕ) → Type 0
PathsAgreeWithin b = (v : ℕ) (bytes : List ℕ) (c s h q : Bool) → length bytes ≤ b v
    → finalized_with (feed bytes (fresh v)) (flags c false s h q) ≡ finalized_with (feed bytes (fresh v)) (flags c true s h q)

-- the same of option numbers: 2 is the ratio flag
abbrev pub NumbersAgreeWithin : (ℕ → ℕ) → Type 0
NumbersAgreeWithin b = (v n : ℕ) (bytes : List ℕ) → has 2 n ≡ false → length bytes ≤ b v → digest_of v n bytes ≡ digest_of v (n + 2) bytes

-- Demand 3
abbrev pub PathsAgree : Type 0
PathsAgree = PathsAgreeWithin bound

abbrev pub NumbersAgree : Type 0
NumbersAgree = NumbersAgreeWithin bound

-- both hold farther
abbrev pub PathsAgreeFarther : Type 0
PathsAgreeFarther = PathsAgreeWithin far_bound

abbrev pub NumbersAgreeFarther : Type 0
NumbersAgreeFarther = NumbersAgreeWithin far_bound

-- ---- cutting

-- any cutting of the same bytes, empty chunks included, gives the same digest or refusal
abbrev pub AnyCutting : Type 0
AnyCutting = (v n : ℕ) (chunks : List (List ℕ)) → finalized (feeds chunks (fresh v)) n ≡ digest_of v n (joined chunks)

-- ---- the number that an input gets

-- the used counters of an input
abbrev pub used_of : ℕ → List ℕ → List ℕ
used_of v bytes = take v (feed bytes (fresh v)).counters

-- the number under known flags: the length decides, then the third quartile, then the count of counters that are not 0
unfoldable pub input_number_with : ℕ → Options → List ℕ → ℕ
input_number_with v o bytes =
    cond (ltb (maximum v) (length bytes)) too_large_input
    (cond (is_too_small v (length bytes) o) too_small_input
    (cond (is_three_quarter_empty (quartiles (used_of v bytes)) o) three_quarter_empty
    (cond (is_half_empty (used_of v bytes) v o) half_empty
    done)))

-- 10 and 6 before it
unfoldable pub input_number : ℕ → ℕ → List ℕ → ℕ
input_number v n bytes = cond (has_unknown_bit n) unknown_option (cond (known v) (input_number_with v (result_unwrap_or (chosen n) clear) bytes) unknown_variant)

-- each number is given exactly on its condition; 5 and 19 are no conditions of an input
abbrev pub ExactNumbers : Type 0
ExactNumbers = (v n : ℕ) (bytes : List ℕ) → answer_number (digest_of v n bytes) ≡ input_number v n bytes

-- a refusal comes without a digest: whoever takes the all-zero one in its place has that one
abbrev pub ZeroBesideRefusal : Type 0
ZeroBesideRefusal = (s : State) (n : ℕ) → answer_number (finalized s n) ≢ done → result_unwrap_or (finalized s n) zero_digest ≡ zero_digest

-- ---- the digest that an input gets

-- where an input gets a digest, that is a record that the port makes, of the variant that was asked for
abbrev pub InputsGetMade : Type 0
InputsGetMade = (v n : ℕ) (bytes : List ℕ) (d : Digest) → digest_of v n bytes ≡ Ok d → Made d × (d.variant ≡ v)

-- the body bytes that its variant doesn't use are 0
abbrev pub UnusedAreZero : Type 0
UnusedAreZero = (v n : ℕ) (bytes : List ℕ) (d : Digest) → digest_of v n bytes ≡ Ok d
    → (i : ℕ) → bytes_of v ≤ i → get_or d.body i 0 ≡ 0

-- its text, read, is that digest
abbrev pub TextsReadBack : Type 0
TextsReadBack = (v n : ℕ) (bytes : List ℕ) (d : Digest) → digest_of v n bytes ≡ Ok d
    → read_of v (text_of d) ≡ Ok d

-- so is what the one-shot digest leaves at the front of its destination
abbrev pub WrittenReadBack : Type 0
WrittenReadBack = (v n : ℕ) (bytes lent : List ℕ) → (digested v n bytes lent).answer ≡ Ok tt
    → IsOkAnd (digest_of v n bytes) (λ d.
    read_of v (take (text_size v) (digested v n bytes lent).destination) ≡ Ok d)
