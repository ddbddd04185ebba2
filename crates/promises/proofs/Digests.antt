-- Every digest that an input gets is a record that the port makes, and comes back from its text.
-- Assumes nothing.
use mathlib.Core.Path.{◌≡◌, refl, subst}
use mathlib.Core.List.{List}
use Prim.Native.Nat.{ℕ}
use native.Mathlib.Omega.{arith}
use lib.ListN.{length, take}
use Rattle.std.specs.Prelude.{Result, Ok, Err, IsOkAnd}
use Rattle.params.specs.declared.Refusal.{Refusal}
use Rattle.hash.specs.declared.Digest.{Digest}
use Rattle.hash.specs.Digest.{Made}
use Rattle.text.specs.Text.{text_of, text_size, write_of}
use Rattle.parse.specs.Reading.{read_of}
use Rattle.parse.proofs.RoundTrip.{text_read, read_written}
use Rattle.generate.specs.Feed.{fresh, feed}
use Rattle.generate.proofs.Reached.{counters_256, checksum_small, variant_stays}
use Rattle.finalize.specs.Final.{digest_of}
use Rattle.finalize.proofs.Demands.{states_get_made}
use Rattle.saltcurtain.specs.Entries.{argument_answer, given, digested, written_of}
use Rattle.promises.specs.Demands.{InputsGetMade, UnusedAreZero, TextsReadBack, WrittenReadBack}

-- the state that any bytes lead to has 256 counters, a checksum of one byte, and its variant
pub inputs_get_made : InputsGetMade
unfolding digest_of
inputs_get_made v n bytes d e =
    subst (λ (u : ℕ). Made d × (d.variant ≡ u)) (variant_stays v bytes)
    (states_get_made (feed bytes (fresh v)) n (counters_256 v bytes) (checksum_small v bytes) d e)

-- what its variant doesn't use is 0
pub unused_are_zero : UnusedAreZero
unused_are_zero v n bytes d e i h =
    let w = inputs_get_made v n bytes d e in
    w.0.rest i (omega (arith, w.1))

-- a record that the port makes comes back from its text
text_back : (v : ℕ) (d : Digest) → Made d → d.variant ≡ v → read_of v (text_of d) ≡ Ok d
text_back v d m e = subst (λ (u : ℕ). read_of u (text_of d) ≡ Ok d) e (text_read d m)

-- so does every digest that an input gets
pub texts_read_back : TextsReadBack
texts_read_back v n bytes d e =
    let w = inputs_get_made v n bytes d e in
    text_back v d w.0 w.1

-- a record that the port makes comes back from the memory where its text was written
memory_back : (v : ℕ) (d : Digest) (lent : List ℕ) → Made d → d.variant ≡ v → (write_of d lent).answer ≡ Ok tt
    → read_of v (take (text_size v) (write_of d lent).destination) ≡ Ok d
memory_back v d lent m e w =
    subst (λ (u : ℕ). read_of u (take (text_size u) (write_of d lent).destination) ≡ Ok d) e
    (read_written d lent m w)

-- no refusal is an answer that is given
refused : {A : Type 0} (e : Refusal) → ◌≡◌ {A = Result (Unit {0}) Refusal} (Err e) (Ok tt) → A
refused e h = absurd cc

-- where the finalizer refused, that is the answer, and no text was written
given_back : (v : ℕ) (r : Result Digest Refusal) (lent : List ℕ)
    → ((d : Digest) → r ≡ Ok d → Made d × (d.variant ≡ v)) → (given r lent).answer ≡ Ok tt
    → IsOkAnd r (λ d. read_of v (take (text_size v) (given r lent).destination) ≡ Ok d)
given_back v (Ok d) lent m w = memory_back v d lent (m d refl).0 (m d refl).1 w
given_back v (Err e) lent m w = refused e w

-- where an argument was refused, likewise
written_by : (v n : ℕ) (bytes lent : List ℕ) (a : Result (Unit {0}) Refusal)
    → (written_of a (λ _. given (digest_of v n bytes) lent) lent).answer ≡ Ok tt
    → IsOkAnd (digest_of v n bytes)
    (λ d. read_of v (take (text_size v) (written_of a (λ _. given (digest_of v n bytes) lent) lent).destination) ≡ Ok d)
written_by v n bytes lent (Ok _) w = given_back v (digest_of v n bytes) lent (inputs_get_made v n bytes) w
written_by v n bytes lent (Err e) w = refused e w

-- what the one-shot digest leaves at the front of its destination comes back
pub written_read_back : WrittenReadBack
unfolding digested
written_read_back v n bytes lent = written_by v n bytes lent (argument_answer v n (length lent))
