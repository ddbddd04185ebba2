-- What holds of every input: any cutting gives the same answer, and each number is given exactly on its condition.
-- Assumes nothing.
use mathlib.Core.Path.{◌≡◌, refl, ap}
use mathlib.Core.Bool.{Bool, true, false, cond}
use mathlib.Core.List.{List}
use Prim.Native.Nat.{ℕ, ◌^◌, ◌<◌}
use native.Mathlib.Omega.{arith}
use native.Mathlib.Decide.{dec_lt}
use lib.Dec.{ltb}
use lib.ListN.{length, take}
use borrow.Author.Tests.{lt-ltb}
use Rattle.std.specs.Prelude.{◌≢◌, Result, Ok, Err}
use Rattle.std.specs.Result.{result_unwrap_or}
use Rattle.params.specs.declared.Refusal.{Refusal}
use Rattle.params.specs.declared.Refusal.TheVariants.{TooLargeInput, TooSmallInput, ThreeQuarterEmpty, HalfEmpty}
use Rattle.params.specs.Variants.{known}
use Rattle.params.specs.Answers.{answer_number, done, too_large_input, too_small_input, three_quarter_empty, half_empty, unknown_variant}
use Rattle.length.specs.Limits.{maximum}
use Rattle.length.proofs.Codes.{has_code}
use Rattle.quartile.specs.Quartile.{quartiles}
use Rattle.hash.specs.declared.Digest.{Digest}
use Rattle.hash.specs.Digest.{zero_digest}
use Rattle.generate.specs.declared.State.{State}
use Rattle.generate.specs.Feed.{fresh, feed}
use Rattle.generate.specs.Answer.{processed}
use Rattle.generate.proofs.Reached.{variant_stays, processed_below, processed_beyond}
use Rattle.generate.proofs.Chunks.{feeds_joined}
use Rattle.options.specs.declared.Options.{Options}
use Rattle.options.specs.Options.{flags, has, chosen}
use Rattle.finalize.specs.Final.{is_too_large, is_too_small, is_three_quarter_empty, is_half_empty, replaced, digest_by}
use Rattle.finalize.specs.Final.{distributed, with_code, measured, with_length, finalized_with, finalized_by, finalized, digest_of}
use Rattle.promises.specs.Demands.{AnyCutting, input_number_with, input_number, ExactNumbers, ZeroBesideRefusal}

-- any cutting
pub any_cutting : AnyCutting
unfolding digest_of
any_cutting v n chunks = ap (λ (s : State). finalized s n) (feeds_joined chunks (fresh v))

-- ---- the number that an input gets

-- the number of four tests in a row
four : (a b c e : Bool) (d : Digest)
    → answer_number
    (cond a (Err TooLargeInput) (cond b (Err TooSmallInput) (cond c (Err ThreeQuarterEmpty) (cond e (Err HalfEmpty) (Ok d)))))
    ≡ cond a too_large_input (cond b too_small_input (cond c three_quarter_empty (cond e half_empty done)))
four true b c e d = refl
four false true c e d = refl
four false false true e d = refl
four false false false true d = refl
four false false false false d = refl

-- steps 1 to 7 at length n
module _ (n : ℕ) (s : State) (o : Options) where
  abbrev used : List ℕ
  used = take s.variant s.counters

  abbrev Steps : Type 0
  Steps = answer_number (measured n s o)
      ≡ cond (ltb (maximum s.variant) n) too_large_input
      (cond (is_too_small s.variant n o) too_small_input
      (cond (is_three_quarter_empty (quartiles used) o) three_quarter_empty
      (cond (is_half_empty used s.variant o) half_empty done)))

  steps_by : Dec (maximum s.variant < n) → Steps
  unfolding measured is_too_large with_code distributed maximum
  steps_by (yes l) = rw (lt-ltb (maximum s.variant) n l)
  steps_by (no l) =
      let code = has_code n (omega arith) in
      rw (code.1.given)
      (four (ltb (maximum s.variant) n) (is_too_small s.variant n o)
      (is_three_quarter_empty (quartiles used) o) (is_half_empty used s.variant o)
      (digest_by (replaced (quartiles used)) used s.variant s.checksum code.0 o.integer))

  steps : Steps
  steps = steps_by (dec_lt _ _)

-- below 2^32 the processed length is the number of bytes, and from there on it is unknown
module _ (v : ℕ) (bytes : List ℕ) (k : known v ≡ true) where
  abbrev fed : State
  fed = feed bytes (fresh v)

  exact_by : (o : Options) → Dec (length bytes < 2 ^ 32) → answer_number (finalized_with fed o) ≡ input_number_with v o bytes
  unfolding finalized_with with_length input_number_with maximum feed
  exact_by o (yes h) = rw (processed_below v bytes k h) (rw (variant_stays v bytes) at (steps (length bytes) fed o))
  exact_by o (no h) =
      rw (processed_beyond v bytes k (omega arith), lt-ltb 4_224_281_216 (length bytes) (omega arith)) (steps 4_294_967_295 fed o)

-- an unknown variant
unknown_six : (v : ℕ) (bytes : List ℕ) (o : Options) → known v ≡ false → answer_number (finalized_with (feed bytes (fresh v)) o) ≡ unknown_variant
unfolding finalized_with with_length processed
unknown_six v bytes o k = rw (variant_stays v bytes, k)

exact_known : (v : ℕ) (o : Options) (bytes : List ℕ) (k : Bool) → known v ≡ k
    → answer_number (finalized_with (feed bytes (fresh v)) o) ≡ cond k (input_number_with v o bytes) unknown_variant
exact_known v o bytes true e = exact_by v bytes e o (dec_lt _ _)
exact_known v o bytes false e = unknown_six v bytes o e

exact_options : (v n : ℕ) (bytes : List ℕ) (b : Bool) → ltb 31 n ≡ b → answer_number (digest_of v n bytes) ≡ input_number v n bytes
unfolding digest_of finalized finalized_by input_number chosen
exact_options v n bytes true e = rw e
exact_options v n bytes false e =
    rw e (exact_known v (flags (has 1 n) (has 2 n) (has 4 n) (has 8 n) (has 16 n)) bytes (known v) refl)

-- each number is given exactly on its condition
pub exact_numbers : ExactNumbers
exact_numbers v n bytes = exact_options v n bytes (ltb 31 n) refl

-- ---- a refusal's record

-- what is taken in the place of a digest is taken as it is
zero_beside : (r : Result Digest Refusal) → answer_number r ≢ done → result_unwrap_or r zero_digest ≡ zero_digest
zero_beside (Ok d) z = absurd (z refl)
zero_beside (Err e) z = refl

-- of every state, also one that no bytes reach
pub zero_beside_refusal : ZeroBesideRefusal
zero_beside_refusal s n = zero_beside (finalized s n)
