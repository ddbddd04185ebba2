-- The body's list while it is filled from its last used byte to its first.
-- Assumes nothing.
use Rattle.std.proofs.Common.{◌≡◌, ℕ, zero, suc, ◌+◌, ◌-◌, ◌*◌, ◌/◌, ◌≤◌, ◌<◌, List, [], ◌∷◌, ◌++◌, length, get_or, take, drop, replicate, refl, ap, ◌∙◌, add-one, add-zero, add_comm, length-take, arith, lit<}
use native.Mathlib.Nat.{le_of_suc-le-suc}
use lib.ListN.{set, length-replicate, replicate-append-replicate}
use lib.Seq.{set_at, drop-drop, get_or-take, get_or-drop}
use Rattle.std.specs.Simd.{first_chunks}
use Rattle.quartile.specs.declared.Quartiles.{Quartiles}
use Rattle.body.specs.Body.{byte_of, bytes_down, bytes_of, body_of}

-- a body of m used bytes, of which the last i are there
abbrev partly : Quartiles → List ℕ → ℕ → ℕ → List ℕ
partly cuts used m i = replicate (m - i) 0 ++ (bytes_down cuts used i ++ replicate (64 - m) 0)

-- the first zero of a row may stand behind the others
zeros_last : (n : ℕ) (rest : List ℕ) → replicate (suc n) 0 ++ rest ≡ replicate n 0 ++ (0 ∷ rest)
zeros_last zero rest = refl
zeros_last (suc n) rest = ap (λ (l : List ℕ). 0 ∷ l) (zeros_last n rest)

-- what the loop keeps: the bytes for the first i places are in the body
pub record Filled (cuts : Quartiles) (used : List ℕ) (m i : ℕ) (body : List ℕ) : Type 0 where
  pub count : m ≡ bytes_of (length used)
  pub within : i ≤ m
  pub holds : body ≡ partly cuts used m i

-- at the start all is 0
pub filled_none : (cuts : Quartiles) (used : List ℕ) (m : ℕ) → m ≡ bytes_of (length used) → Filled cuts used m 0 (replicate 64 0)
filled_none cuts used m e =
    let s : m - 0 + (64 - m) ≡ 64 = omega arith in
    record {
      count = e;
      within = omega arith;
      holds = rw (replicate-append-replicate, s);
    }

-- the four counters of place i
fours_at : (used : List ℕ) (k i : ℕ) → i < k → get_or (first_chunks 4 k used) i [] ≡ take 4 (drop (4 * i) used)
fours_at used zero i h = absurd (omega arith)
fours_at used (suc k) zero h = refl
fours_at used (suc k) (suc i) h =
    let e : 4 * suc i ≡ 4 * i + 4 = omega arith in
    rw (fours_at (drop 4 used) k i (le_of_suc-le-suc h), drop-drop (4 * i) 4 used, e)
    (ap (λ (n : ℕ). take 4 (drop n used)) (add_comm 4 (4 * i)))

-- their byte is the byte for place i
four_byte : (cuts : Quartiles) (used : List ℕ) (i : ℕ) → byte_of cuts (take 4 (drop (4 * i) used)) 0 ≡ byte_of cuts used i
four_byte cuts used i = rw (at 0 (lit< tt), at 1 (lit< tt), at 2 (lit< tt), at 3 (lit< tt), add-zero)
  where
    at : (j : ℕ) → j < 4 → get_or (take 4 (drop (4 * i) used)) j 0 ≡ get_or used (4 * i + j) 0
    at j h = get_or-take 4 (drop (4 * i) used) j 0 h ∙ get_or-drop (4 * i) used j 0

-- a turn stores the byte for the next place in front of them
filled_more : (cuts : Quartiles) (used : List ℕ) (m i b : ℕ) (body : List ℕ) → Filled cuts used m i body → i < m
    → b ≡ byte_of cuts used i → Filled cuts used m (i + 1) (set body (m - 1 - i) b)
filled_more cuts used m i b body f h r =
    let p = m - 1 - i in
    let rest : List ℕ = bytes_down cuts used i ++ replicate (64 - m) 0 in
    let now : m - i ≡ suc p = omega arith in
    let next : m - (i + 1) ≡ p = omega arith in
    record {
      count = f.count;
      within = omega arith;
      holds =
          rw (r, f.holds, now, zeros_last, next, add-one i)
          (set_at (replicate p 0) 0 rest (byte_of cuts used i) p (length-replicate p 0));
    }

-- the fours of the places that have a byte
module _ (cuts : Quartiles) (used : List ℕ) (m i : ℕ) (body : List ℕ) (fours : List (List ℕ)) (f : Filled cuts used m i body)
    (n : length fours ≡ length used / 4) where
  -- a turn takes one of them
  pub filled_next : (b : ℕ) → fours ≡ first_chunks 4 (length used / 4) used → i < length (take m fours)
      → b ≡ byte_of cuts (get_or (take m fours) i []) 0 → Filled cuts used m (i + 1) (set body (m - 1 - i) b)
  filled_next b e h r =
      let l = length-take m fours in
      let first = get_or-take m fours i [] (omega arith) in
      let place = fours_at used (length used / 4) i (omega arith) in
      let four = first ∙ ap (λ (xs : List (List ℕ)). get_or xs i []) e ∙ place in
      filled_more cuts used m i b body f (omega arith) (r ∙ ap (λ (xs : List ℕ). byte_of cuts xs 0) four ∙ four_byte cuts used i)

  -- after the last of them it is the body
  pub filled_all : length (take m fours) ≤ i → body ≡ body_of cuts used
  unfolding body_of
  filled_all h =
      let l = length-take m fours in
      let e : i ≡ m = omega (arith, f.count, f.within) in
      let z : m - m ≡ 0 = omega arith in
      f.holds ∙ rw (e, z, f.count)
