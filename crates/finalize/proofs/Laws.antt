-- The quartiles that the ratios go by are in order, and a processed length is that of a known variant.
-- Assumes nothing.
use mathlib.Core.Path.{◌≡◌, refl}
use mathlib.Core.Bool.{Bool, true, false}
use mathlib.Core.List.{List}
use Prim.Native.Nat.{ℕ, ◌≤◌}
use native.Mathlib.Omega.{arith}
use lib.Dec.{eqb}
use borrow.Author.Tests.{eqb-false}
use Rattle.std.specs.Prelude.{Option, Ok}
use Rattle.params.specs.Variants.{known}
use Rattle.quartile.specs.declared.Quartiles.{Quartiles}
use Rattle.quartile.specs.Quartile.{quartiles}
use Rattle.quartile.proofs.Three.{quartiles_ordered}
use Rattle.qratios.specs.Ratios.{ordered, ratios_byte, byte_answered}
use Rattle.qratios.proofs.Answers.{in_order}
use Rattle.generate.specs.declared.State.{State}
use Rattle.generate.specs.Answer.{processed}
use Rattle.finalize.specs.Final.{replaced}

-- the quartiles that ratios and body go by are in order, and the third is not 0
replaced_by : (q : Quartiles) → q.q1 ≤ q.q2 → q.q2 ≤ q.q3 → (b : Bool) → eqb q.q3 0 ≡ b
    → ordered (replaced q).q1 (replaced q).q2 (replaced q).q3 ≡ true
unfolding replaced
replaced_by q a b true e = rw e refl
replaced_by q a b false e =
    let z : q.q3 ≡ 0 → ⊥ = eqb-false q.q3 0 e in
    rw e (in_order q.q1 q.q2 q.q3 a b (omega (arith, z)))

pub replaced_ordered : (used : List ℕ) (q r : Quartiles) → q ≡ quartiles used → r ≡ replaced q → ordered r.q1 r.q2 r.q3 ≡ true
replaced_ordered used q r e f =
    rw (f, e) (replaced_by (quartiles used) (quartiles_ordered used).0 (quartiles_ordered used).1 (eqb (quartiles used).q3 0) refl)

-- so they get their ratios
pub ratios : (used : List ℕ) (i : Bool) → let r = replaced (quartiles used) in byte_answered i r.q1 r.q2 r.q3 ≡ Ok (ratios_byte i r.q1 r.q2 r.q3)
unfolding byte_answered
ratios used i = rw (replaced_ordered used (quartiles used) (replaced (quartiles used)) refl refl)

-- a processed length is given for a known variant alone
known_by : (s : State) (p : Option ℕ) (k : Bool) → known s.variant ≡ k → processed s ≡ Ok p → known s.variant ≡ true
unfolding processed
known_by s p true e h = e
known_by s p false e h = let g = rw e at h in absurd cc

pub length_known : (s : State) (p : Option ℕ) → processed s ≡ Ok p → known s.variant ≡ true
length_known s p h = known_by s p (known s.variant) refl h
