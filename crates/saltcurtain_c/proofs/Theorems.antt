-- A refusal comes with zeros.
-- Assumes nothing.
use mathlib.Core.Path.{◌≡◌, refl}
use Prim.Native.Nat.{ℕ}
use Rattle.std.specs.Prelude.{◌≢◌, Result, Ok, Err}
use Rattle.params.specs.declared.Refusal.{Refusal}
use Rattle.params.specs.Answers.{done}
use Rattle.hash.specs.declared.Digest.{Digest}
use Rattle.hash.specs.Digest.{zero_digest}
use Rattle.parse.specs.Reading.{read_of}
use Rattle.saltcurtain.specs.Entries.{texts_distance}
use Rattle.saltcurtain_c.specs.Answers.{distance_answer, read_answer}
use Rattle.saltcurtain_c.specs.Theorems.{ReadIsZero, DistanceIsZero}

read_zero : (r : Result Digest Refusal) → (read_answer r).number ≢ done → (read_answer r).digest ≡ zero_digest
read_zero (Ok d) z = absurd (z refl)
read_zero (Err e) z = refl

pub read_is_zero : ReadIsZero
read_is_zero v text = read_zero (read_of v text)

distance_zero : (r : Result ℕ Refusal) → (distance_answer r).number ≢ done → (distance_answer r).distance ≡ 0
distance_zero (Ok n) z = absurd (z refl)
distance_zero (Err e) z = refl

pub distance_is_zero : DistanceIsZero
distance_is_zero v s w t = distance_zero (texts_distance v s w t)
