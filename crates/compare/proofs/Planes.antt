-- The costs of all codes of two words at once. A word is n half bytes of two codes each; a law of one half byte is one computed test
-- over all of them, and one half byte more is one step of the word.
-- Assumes nothing.
use mathlib.Core.Path.{◌≡◌, refl, sym, ◌∙◌, ap, ap₂}
use mathlib.Core.Bool.{Bool}
use Prim.Native.Nat.{ℕ, zero, suc, ◌+◌, ◌-◌, ◌*◌, ◌/◌, ◌%◌, ◌^◌, ◌≤◌, ◌<◌}
use native.Mathlib.Nat.{pow-suc}
use native.Mathlib.Omega.{arith}
use lib.Dec.{T, leb, eqb, leb→le, eqb→eq}
use lib.ListN.{replicate}
use lib.Bits.{bit_and, bit_xor, and_block, xor_block, and_le_l, and_le_r, xor_lt, and_zero_r, and_zero_l}
use Rattle.params.specs.Words.{every}
use Rattle.params.proofs.Every.{below}
use Rattle.compare.specs.Distance.{code_cost}
use Rattle.compare.specs.Lanes.{byte_cost, lane_costs}
use Rattle.compare.proofs.Costs.{code_most}
use Rattle.compare.proofs.Halves.{halves}

-- n half bytes 5: the low bit of each code
unfoldable pub fives : ℕ → ℕ
fives zero = 0
fives (suc n) = fives n * 16 + 5

-- the codes of which both bits are set in z; of those, where the bits of x are equal; and z less twice the first
abbrev pub both : ℕ → ℕ → ℕ
both f z = bit_and (bit_and (z / 2) f) z

abbrev pub ends : ℕ → ℕ → ℕ → ℕ
ends f b x = bit_and b (bit_xor (bit_xor x (x / 2)) f)

abbrev pub plain : ℕ → ℕ → ℕ
plain f z = z - both f z - both f z

-- ---- one half byte, computed

-- a test at each number below n, and at each two below 16
abbrev up_to : ℕ → (ℕ → Bool) → Bool
up_to n t = every (λ (k x : ℕ). t k) 0 (replicate n 0)

abbrev two : (ℕ → ℕ → Bool) → Bool
two t = up_to 16 (λ (x : ℕ). up_to 16 (λ (y : ℕ). t x y))

of_two : (t : ℕ → ℕ → Bool) → T (two t) → (x y : ℕ) → x < 16 → y < 16 → T (t x y)
of_two t e x y h k = below (λ (v : ℕ). t x v) 16 (below (λ (u : ℕ). up_to 16 (λ (v : ℕ). t u v)) 16 e x h) y k

-- the bit that a shift brings in from the next half byte meets no low bit of a code
abbrev carried_both : ℕ → ℕ → Bool
carried_both c z = eqb (bit_and (c * 8 + z / 2) 5) (bit_and (z / 2) 5)

carry_both : (c z : ℕ) → c < 2 → z < 16 → bit_and (c * 8 + z / 2) 5 ≡ bit_and (z / 2) 5
carry_both c z h k =
    eqb→eq (bit_and (c * 8 + z / 2) 5) (bit_and (z / 2) 5)
    (below (carried_both c) 16 (below (λ (u : ℕ). up_to 16 (carried_both u)) 2 tt c h) z k)

abbrev carried_ends : ℕ → ℕ → ℕ → Bool
carried_ends c z x = eqb (bit_and (both 5 z) (bit_xor (bit_xor x (c * 8 + x / 2)) 5)) (ends 5 (both 5 z) x)

carry_ends : (c z x : ℕ) → c < 2 → z < 16 → x < 16
    → bit_and (both 5 z) (bit_xor (bit_xor x (c * 8 + x / 2)) 5) ≡ ends 5 (both 5 z) x
carry_ends c z x h k l =
    eqb→eq (bit_and (both 5 z) (bit_xor (bit_xor x (c * 8 + x / 2)) 5)) (ends 5 (both 5 z) x)
    (of_two (carried_ends c) (below (λ (u : ℕ). two (carried_ends u)) 2 tt c h) z x k l)

-- twice the first may be taken away
twice_half : (z : ℕ) → z < 16 → 2 * both 5 z ≤ z
twice_half z h = leb→le (2 * both 5 z) z (below (λ (v : ℕ). leb (2 * both 5 v) v) 16 tt z h)

-- the cost of the two pairs of codes of two half bytes
abbrev pub pair_cost : ℕ → ℕ → ℕ
pair_cost x y = code_cost (x % 4) (y % 4) + code_cost (x / 4 % 4) (y / 4 % 4)

-- what the code makes of the two planes
abbrev worth : ℕ → ℕ → ℕ
worth v o = (v % 4 + v / 4 % 4) + 5 * (o % 4 + o / 4 % 4)

abbrev worth_of : ℕ → ℕ → ℕ
worth_of x y = worth (plain 5 (bit_xor x y)) (ends 5 (both 5 (bit_xor x y)) x)

-- is their cost
cost_half : (x y : ℕ) → x < 16 → y < 16 → worth_of x y ≡ pair_cost x y
unfolding code_cost
cost_half x y h k = eqb→eq (worth_of x y) (pair_cost x y) (of_two (λ (u v : ℕ). eqb (worth_of u v) (pair_cost u v)) tt x y h k)

-- ---- one half byte more

step_both : (f Z z : ℕ) → z < 16 → both (f * 16 + 5) (Z * 16 + z) ≡ both f Z * 16 + both 5 z
step_both f Z z l =
    let h : (Z * 16 + z) / 2 ≡ Z / 2 * 16 + (Z % 2 * 8 + z / 2) = omega arith in
    ap (λ (n : ℕ). bit_and (bit_and n (f * 16 + 5)) (Z * 16 + z)) h
    ∙ ap (λ (n : ℕ). bit_and n (Z * 16 + z))
    (and_block 4 (Z / 2) f (Z % 2 * 8 + z / 2) 5 (omega arith) (omega arith)
    ∙ ap (λ (n : ℕ). bit_and (Z / 2) f * 16 + n) (carry_both (Z % 2) z (omega arith) l))
    ∙ and_block 4 (bit_and (Z / 2) f) Z (bit_and (z / 2) 5) z (omega (arith, and_le_r (z / 2) 5)) l

step_ends : (f B X z x : ℕ) → z < 16 → x < 16
    → ends (f * 16 + 5) (B * 16 + both 5 z) (X * 16 + x) ≡ ends f B X * 16 + ends 5 (both 5 z) x
step_ends f B X z x l k =
    let h : (X * 16 + x) / 2 ≡ X / 2 * 16 + (X % 2 * 8 + x / 2) = omega arith in
    let r : ℕ = X % 2 * 8 + x / 2 in
    let lr : r < 16 = omega arith in
    let b = twice_half z l in
    let lx : bit_xor x r < 16 = xor_lt 4 x r k lr in
    ap (λ (n : ℕ). bit_and (B * 16 + both 5 z) (bit_xor (bit_xor (X * 16 + x) n) (f * 16 + 5))) h
    ∙ ap (λ (n : ℕ). bit_and (B * 16 + both 5 z) (bit_xor n (f * 16 + 5))) (xor_block 4 X (X / 2) x r k lr)
    ∙ ap (λ (n : ℕ). bit_and (B * 16 + both 5 z) n) (xor_block 4 (bit_xor X (X / 2)) f (bit_xor x r) 5 lx (omega arith))
    ∙ and_block 4 B (bit_xor (bit_xor X (X / 2)) f) (both 5 z) (bit_xor (bit_xor x r) 5) (omega arith)
    (xor_lt 4 (bit_xor x r) 5 lx (omega arith))
    ∙ ap (λ (n : ℕ). ends f B X * 16 + n) (carry_ends (X % 2) z x (omega arith) l k)

split16 : (z : ℕ) → z ≡ z / 16 * 16 + z % 16
split16 z = omega arith

-- twice the first may be taken away, in a word
pub twice : (n z : ℕ) → 2 * both (fives n) z ≤ z
unfolding fives
twice zero z =
    let e : both 0 z ≡ 0 = ap (λ (n : ℕ). bit_and n z) (and_zero_r (z / 2)) ∙ and_zero_l z in
    rw e (omega arith)
twice (suc n) z =
    let s = step_both (fives n) (z / 16) (z % 16) (omega arith) in
    let e : both (fives n * 16 + 5) z ≡ both (fives n) (z / 16) * 16 + both 5 (z % 16) = rw (← split16 z) at s in
    let a = twice n (z / 16) in
    let b = twice_half (z % 16) (omega arith) in
    omega (arith, e)

step_plain : (n Z z : ℕ) → z < 16 → plain (fives n * 16 + 5) (Z * 16 + z) ≡ plain (fives n) Z * 16 + plain 5 z
step_plain n Z z l =
    let e = step_both (fives n) Z z l in
    let a = twice n Z in
    let b = twice_half z l in
    omega (arith, e)

four : (p q : ℕ) → (4 * p + q) % 4 ≡ q % 4
four p q = omega arith

-- the two codes of a half byte are added in it
step_halves : (n P v : ℕ) → v < 16 → halves 2 (suc n) (P * 16 + v) ≡ halves 2 n P * 16 + (v % 4 + v / 4 % 4)
unfolding halves
step_halves n P v l =
    let a : (P * 16 + v) / 16 ≡ P = omega arith in
    let b : (P * 16 + v) % 4 ≡ v % 4 = omega arith in
    let d : (P * 16 + v) / 4 ≡ 4 * P + v / 4 = omega arith in
    let c : (P * 16 + v) / 4 % 4 ≡ v / 4 % 4 = rw d (four P (v / 4)) in
    ap₂ (λ (p q : ℕ). halves 2 n p * 16 + q) a (ap₂ (λ (p q : ℕ). p + q) b c)

-- the word that has the cost of each of n pairs of half bytes in their place
unfoldable pub pair_costs : ℕ → ℕ → ℕ → ℕ
pair_costs zero x y = 0
pair_costs (suc n) x y = pair_costs n (x / 16) (y / 16) * 16 + pair_cost (x % 16) (y % 16)

-- what the code makes of two words
abbrev pub summed : ℕ → ℕ → ℕ → ℕ
summed n x y =
    halves 2 n (plain (fives n) (bit_xor x y)) + 5 * halves 2 n (ends (fives n) (both (fives n) (bit_xor x y)) x)

one_more : (n X Y x y : ℕ) → x < 16 → y < 16 → summed (suc n) (X * 16 + x) (Y * 16 + y) ≡ summed n X Y * 16 + pair_cost x y
unfolding fives
one_more n X Y x y h k =
    let f = fives n in
    let Z : ℕ = bit_xor X Y in
    let z : ℕ = bit_xor x y in
    let l : z < 16 = xor_lt 4 x y h k in
    let g : bit_xor (X * 16 + x) (Y * 16 + y) ≡ Z * 16 + z = xor_block 4 X Y x y h k in
    let b = twice_half z l in
    let v : halves 2 (suc n) (plain (f * 16 + 5) (Z * 16 + z)) ≡ halves 2 n (plain f Z) * 16 + (plain 5 z % 4 + plain 5 z / 4 % 4) =
    ap (halves 2 (suc n)) (step_plain n Z z l) ∙ step_halves n (plain f Z) (plain 5 z) (omega arith) in
    let le : ends 5 (both 5 z) x < 16 = omega (arith, and_le_l (both 5 z) (bit_xor (bit_xor x (x / 2)) 5)) in
    let o : halves 2 (suc n) (ends (f * 16 + 5) (both (f * 16 + 5) (Z * 16 + z)) (X * 16 + x))
    ≡ halves 2 n (ends f (both f Z) X) * 16 + (ends 5 (both 5 z) x % 4 + ends 5 (both 5 z) x / 4 % 4) =
    ap (halves 2 (suc n))
    (ap (λ (m : ℕ). ends (f * 16 + 5) m (X * 16 + x)) (step_both f Z z l) ∙ step_ends f (both f Z) X z x l h)
    ∙ step_halves n (ends f (both f Z) X) (ends 5 (both 5 z) x) le in
    let c = cost_half x y h k in
    ap (λ (m : ℕ). halves 2 (suc n) (plain (f * 16 + 5) m) + 5 * halves 2 (suc n) (ends (f * 16 + 5) (both (f * 16 + 5) m) (X * 16 + x))) g
    ∙ ap₂ (λ (p q : ℕ). p + 5 * q) v o
    ∙ regroup (halves 2 n (plain f Z)) (halves 2 n (ends f (both f Z) X)) (plain 5 z % 4 + plain 5 z / 4 % 4)
    (ends 5 (both 5 z) x % 4 + ends 5 (both 5 z) x / 4 % 4) (pair_cost x y) c
  where
    regroup : (a b p q r : ℕ) → p + 5 * q ≡ r → (a * 16 + p) + 5 * (b * 16 + q) ≡ (a + 5 * b) * 16 + r
    regroup a b p q r e = omega arith

-- is the costs of their half bytes
pub summed_costs : (n x y : ℕ) → summed n x y ≡ pair_costs n x y
unfolding pair_costs halves
summed_costs zero x y = refl
summed_costs (suc n) x y =
    ap₂ (λ (p q : ℕ). summed (suc n) p q) (split16 x) (split16 y)
    ∙ one_more n (x / 16) (y / 16) (x % 16) (y % 16) (omega arith) (omega arith)
    ∙ ap (λ (m : ℕ). m * 16 + pair_cost (x % 16) (y % 16)) (summed_costs n (x / 16) (y / 16))

-- ---- two half bytes are a byte

byte_halves : (x y : ℕ) → pair_cost (x / 16 % 16) (y / 16 % 16) + pair_cost (x % 16) (y % 16) ≡ byte_cost x y
unfolding byte_cost
byte_halves x y = rw (low x, low y, next x, next y, third x, third y, last x, last y) (omega arith)
  where
    low : (n : ℕ) → n % 16 % 4 ≡ n % 4
    low n = omega arith

    next : (n : ℕ) → n % 16 / 4 % 4 ≡ n / 4 % 4
    next n =
        let e : n / 4 ≡ 4 * (n / 16) + n % 16 / 4 = omega arith in
        rw e (sym (four (n / 16) (n % 16 / 4)))

    third : (n : ℕ) → n / 16 % 16 % 4 ≡ n / 16 % 4
    third n = low (n / 16)

    last : (n : ℕ) → n / 16 % 16 / 4 % 4 ≡ n / 64 % 4
    last n =
        let e : n / 64 ≡ n / 16 / 4 = omega arith in
        rw e (next (n / 16))

-- two half bytes cost at most 12, so that their cost fits a half byte
pair_most : (x y : ℕ) → pair_cost x y ≤ 12
pair_most x y = omega (arith, code_most x y, code_most (x / 4) (y / 4))

pub pairs_fit : (n x y : ℕ) → pair_costs n x y < 16 ^ n
unfolding pair_costs
pairs_fit zero x y = omega arith
pairs_fit (suc n) x y = rw (pow-suc 16 n) (omega (arith, pairs_fit n (x / 16) (y / 16), pair_most (x % 16) (y % 16)))

abbrev pub double : ℕ → ℕ
double zero = 0
double (suc n) = suc (suc (double n))

-- added two by two they are the costs of the bytes
pub pairs_lanes : (m x y : ℕ) → halves 4 m (pair_costs (double m) x y) ≡ lane_costs m x y
unfolding pair_costs halves lane_costs
pairs_lanes zero x y = refl
pairs_lanes (suc m) x y =
    let A = pair_costs (double m) (x / 16 / 16) (y / 16 / 16) in
    let p = pair_cost (x / 16 % 16) (y / 16 % 16) in
    let q = pair_cost (x % 16) (y % 16) in
    let h = pair_most (x / 16 % 16) (y / 16 % 16) in
    let k = pair_most (x % 16) (y % 16) in
    let a : ((A * 16 + p) * 16 + q) / 256 ≡ A = top A p q h k in
    let b : ((A * 16 + p) * 16 + q) % 16 ≡ q = omega arith in
    let c : ((A * 16 + p) * 16 + q) / 16 % 16 ≡ p = mid A p q h k in
    let dx : x / 16 / 16 ≡ x / 256 = omega arith in
    let dy : y / 16 / 16 ≡ y / 256 = omega arith in
    ap₂ (λ (u v : ℕ). halves 4 m u * 256 + v) a (ap₂ (λ (u v : ℕ). u + v) b c)
    ∙ ap₂ (λ (u v : ℕ). u * 256 + v) (pairs_lanes m (x / 16 / 16) (y / 16 / 16) ∙ ap₂ (lane_costs m) dx dy)
    (swap q p ∙ byte_halves x y)
  where
    top : (a p q : ℕ) → p ≤ 12 → q ≤ 12 → ((a * 16 + p) * 16 + q) / 256 ≡ a
    top a p q h k = omega arith

    mid : (a p q : ℕ) → p ≤ 12 → q ≤ 12 → ((a * 16 + p) * 16 + q) / 16 % 16 ≡ p
    mid a p q h k =
        let e : ((a * 16 + p) * 16 + q) / 16 ≡ a * 16 + p = omega arith in
        rw e (omega arith)

    swap : (a b : ℕ) → a + b ≡ b + a
    swap a b = omega arith
