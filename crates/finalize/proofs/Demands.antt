-- Every digest that finalizing gives is a record that the port makes: each step refuses, or leads on to the record of as many counters
-- as the variant has.
-- Assumes nothing.
use mathlib.Core.Path.{◌≡◌, refl}
use mathlib.Core.Bool.{Bool, true, false, cond}
use mathlib.Core.List.{List}
use Prim.Native.Nat.{ℕ, ◌<◌}
use native.Mathlib.Omega.{arith}
use lib.ListN.{length, take, length-take}
use borrow.Author.Tests.{ltb-false}
use Rattle.std.specs.Prelude.{Result, Ok, Err}
use Rattle.params.specs.Words.{and_then}
use Rattle.params.specs.declared.Refusal.{Refusal}
use Rattle.params.specs.declared.Refusal.TheVariants.{TooLargeInput, TooSmallInput, ThreeQuarterEmpty, HalfEmpty}
use Rattle.params.specs.Variants.{known}
use Rattle.params.proofs.Variants.{known_most}
use Rattle.length.specs.Code.{coded}
use Rattle.length.specs.Limits.{maximum}
use Rattle.length.proofs.Codes.{has_code}
use Rattle.quartile.specs.declared.Quartiles.{Quartiles}
use Rattle.quartile.specs.Quartile.{quartiles}
use Rattle.hash.specs.declared.Digest.{Digest}
use Rattle.hash.specs.Digest.{Made}
use Rattle.hash.proofs.Making.{made_of_body}
use Rattle.generate.specs.declared.State.{State}
use Rattle.generate.specs.Answer.{processed}
use Rattle.options.specs.declared.Options.{Options}
use Rattle.options.specs.Options.{chosen}
use Rattle.finalize.specs.Final.{counts_as, is_too_large, is_too_small, is_three_quarter_empty, is_half_empty, replaced, digest_by}
use Rattle.finalize.specs.Final.{distributed, with_code, measured, with_length, finalized_with, finalized_by, finalized}
use Rattle.finalize.specs.Demands.{StatesGetMade}
use Rattle.finalize.proofs.Laws.{length_known}

-- an answer whose digest, where it has one, is a record that the port makes, of variant v
record Gives (v : ℕ) (r : Result Digest Refusal) : Type 0 where
  made : (d : Digest) → r ≡ Ok d → Made d × (d.variant ≡ v)

module _ (v : ℕ) where
  -- a refusal is one
  gives_refused : (e : Refusal) → Gives v (Err e)
  gives_refused e = record { made = λ d h. absurd cc }

  -- so is a test that refuses, or leads to one
  gives_by : (b : Bool) (e : Refusal) (r : Result Digest Refusal) → (b ≡ false → Gives v r) → Gives v (cond b (Err e) r)
  gives_by true e r q = gives_refused e
  gives_by false e r q = q refl

  -- and what follows an answer, where that leads to one
  gives_then : {A : Type 0} (a : Result A Refusal) (next : A → Result Digest Refusal) → ((x : A) → a ≡ Ok x → Gives v (next x))
      → Gives v (and_then a next)
  gives_then (Ok x) next f = f x refl
  gives_then (Err e) next f = gives_refused e

-- the record of as many counters as the variant has is one that the port makes
record_made : (q : Quartiles) (used : List ℕ) (v checksum code : ℕ) (i : Bool) → known v ≡ true → length used ≡ v → checksum < 256
    → code < 256 → Gives v (Ok (digest_by q used v checksum code i))
unfolding digest_by
record_made q used v checksum code i k l c b =
    record {
      made = λ d h. let e : digest_by q used v checksum code i ≡ d = cc in
          rw (← e) (made_of_body q used v checksum code _ k l c b (omega arith), refl);
    }

-- steps 3 to 7
gives_distributed : (used : List ℕ) (v checksum code : ℕ) (o : Options) → known v ≡ true → length used ≡ v → checksum < 256 → code < 256
    → Gives v (distributed used v checksum code o)
unfolding distributed
gives_distributed used v checksum code o k l c d =
    gives_by v (is_three_quarter_empty (quartiles used) o) ThreeQuarterEmpty _ (λ e.
    gives_by v (is_half_empty used v o) HalfEmpty _ (λ f.
    record_made (replaced (quartiles used)) used v checksum code o.integer k l c d))

module _ (s : State) (o : Options) (wide : length s.counters ≡ 256) (small : s.checksum < 256) (k : known s.variant ≡ true) where
  -- as many counters are used as the variant has
  used_all : length (take s.variant s.counters) ≡ s.variant
  used_all = simp length-take (omega (arith, wide, known_most s.variant k))

  -- steps 2 to 7: a length up to the maximum has a code, which is a byte
  gives_code : (n : ℕ) → is_too_large s.variant n ≡ false → Gives s.variant (with_code (coded n) s o)
  unfolding with_code is_too_large maximum
  gives_code n e =
      let h = has_code n (ltb-false (maximum s.variant) n e) in
      gives_then s.variant (coded n) _ (λ c f.
      let g : c ≡ h.0 = cc (f, h.1.given) in
      gives_distributed (take s.variant s.counters) s.variant s.checksum c o k used_all small (omega (arith, g, h.1.small)))

  -- steps 1 to 7
  gives_measured : (n : ℕ) → Gives s.variant (measured n s o)
  unfolding measured
  gives_measured n =
      gives_by s.variant (is_too_large s.variant n) TooLargeInput _ (λ e.
      gives_by s.variant (is_too_small s.variant n o) TooSmallInput _ (λ f. gives_code n e))

-- 6 and 19 before them
gives_with : (s : State) (o : Options) → length s.counters ≡ 256 → s.checksum < 256 → Gives s.variant (finalized_with s o)
unfolding finalized_with with_length
gives_with s o wide small =
    gives_then s.variant (processed s) _ (λ n e. gives_measured s o wide small (length_known s n e) (counts_as n))

-- where a state gets a digest, that is a record that the port makes, of the state's variant
pub states_get_made : StatesGetMade
unfolding finalized finalized_by
states_get_made s n wide small = (gives_then s.variant (chosen n) _ (λ o e. gives_with s o wide small)).made
