-- What every body is: 64 bytes, the byte of counters 4i to 4i+3 in its place from the end of the used ones, and 0 after those.
-- Assumes nothing.
use mathlib.Core.Path.{◌≡◌, refl, ◌∙◌, ap, subst}
use mathlib.Core.Bool.{Bool, true, false, cond}
use mathlib.Core.List.{List}
use Prim.Native.Nat.{ℕ, zero, suc, ◌+◌, ◌-◌, ◌*◌, ◌≤◌, ◌<◌}
use native.Mathlib.Nat.{zero-add, suc-add}
use native.Mathlib.Omega.{arith}
use lib.Dec.{ltb}
use lib.ListN.{length, get_or, replicate, length-append, length-replicate, get_or-append}
use Rattle.quartile.specs.declared.Quartiles.{Quartiles}
use Rattle.body.specs.Body.{code_of, byte_of, bytes_down, bytes_of, body_of}
use Rattle.body.proofs.Padded.{padded_small, padded_rest}

-- a code is two bits
pub code_most : (cuts : Quartiles) (counter : ℕ) → code_of cuts counter ≤ 3
unfolding code_of
code_most cuts counter = go (ltb cuts.q3 counter) (ltb cuts.q2 counter) (ltb cuts.q1 counter)
  where
    go : (a b c : Bool) → cond a 3 (cond b 2 (cond c 1 0)) ≤ 3
    go true b c = omega arith
    go false true c = omega arith
    go false false true = omega arith
    go false false false = omega arith

-- four of them are a byte
pub byte_small : (cuts : Quartiles) (used : List ℕ) (i : ℕ) → byte_of cuts used i < 256
byte_small cuts used i =
    omega (
      arith,
      code_most cuts (get_or used (4 * i) 0),
      code_most cuts (get_or used (4 * i + 1) 0),
      code_most cuts (get_or used (4 * i + 2) 0),
      code_most cuts (get_or used (4 * i + 3) 0),
    )

-- m places fill m bytes
length_down : (cuts : Quartiles) (used : List ℕ) (m : ℕ) → length (bytes_down cuts used m) ≡ m
length_down cuts used zero = refl
length_down cuts used (suc m) = ap suc (length_down cuts used m)

-- each of them is a byte
down_small : (cuts : Quartiles) (used : List ℕ) (m i : ℕ) → get_or (bytes_down cuts used m) i 0 < 256
down_small cuts used zero i = omega arith
down_small cuts used (suc m) zero = byte_small cuts used m
down_small cuts used (suc m) (suc i) = down_small cuts used m i

-- the byte for place i has those for the k places above it in front of it
down_at : (cuts : Quartiles) (used : List ℕ) (k i : ℕ) → get_or (bytes_down cuts used (suc (k + i))) k 0 ≡ byte_of cuts used i
down_at cuts used zero i = rw zero-add
down_at cuts used (suc k) i = rw suc-add (down_at cuts used k i)

module _ (cuts : Quartiles) (used : List ℕ) where
  -- a body is 64 bytes long
  pub length_body : length (body_of cuts used) ≡ 64
  unfolding body_of
  length_body =
      let m = bytes_of (length used) in
      simp (length-append, length_down, length-replicate) (omega arith)

  -- the byte of counters 4i to 4i+3 is the one i before the last used one
  pub body_at : (i : ℕ) → i < bytes_of (length used) → get_or (body_of cuts used) (bytes_of (length used) - 1 - i) 0 ≡ byte_of cuts used i
  unfolding body_of
  body_at i h =
      let m = bytes_of (length used) in
      let k = m - 1 - i in
      let e : suc (k + i) ≡ m = omega arith in
      let l : k < length (bytes_down cuts used m) = omega (arith, length_down cuts used m) in
      get_or-append (bytes_down cuts used m) (replicate (64 - m) 0) 0 k l
      ∙ subst (λ (n : ℕ). get_or (bytes_down cuts used n) k 0 ≡ byte_of cuts used i) e (down_at cuts used k i)

  -- the bytes after the used ones are 0
  pub body_rest : (i : ℕ) → bytes_of (length used) ≤ i → get_or (body_of cuts used) i 0 ≡ 0
  unfolding body_of
  body_rest i h =
      let m = bytes_of (length used) in
      padded_rest (bytes_down cuts used m) (64 - m) i (omega (arith, length_down cuts used m))

  -- each entry is a byte
  pub body_small : (i : ℕ) → get_or (body_of cuts used) i 0 < 256
  unfolding body_of
  body_small =
      let m = bytes_of (length used) in
      padded_small (bytes_down cuts used m) (64 - m) (down_small cuts used m)
