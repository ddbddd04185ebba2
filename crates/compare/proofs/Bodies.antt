-- From words to bodies: the cost of the first 12, 32 or 64 bytes is the sum of the bytes of added words of costs.
-- Assumes nothing.
use mathlib.Core.Path.{◌≡◌, refl, sym, ◌∙◌, ap, ap₂}
use mathlib.Core.List.{List, []}
use Prim.Native.Nat.{ℕ, zero, suc, ◌+◌, ◌*◌, ◌/◌, ◌%◌, ◌≤◌, ◌<◌}
use native.Mathlib.Omega.{arith}
use lib.ListN.{get_or, take, drop, length}
use Rattle.std.specs.Int.{w64, from_le_bytes}
use Rattle.std.specs.Simd.{first_chunks}
use Rattle.std.proofs.lemmas.List.{get_or-take, get_or-drop}
use Rattle.compare.specs.Distance.{body_cost}
use Rattle.compare.specs.Lanes.{byte_cost, packed, lane_costs, lane_sum, eight_costs, four_costs}
use Rattle.compare.proofs.Costs.{byte_most, byte_more}

-- ---- words added byte by byte

-- each of n bytes is at most w
abbrev Low : ℕ → ℕ → ℕ → Type 0
Low zero w s = s ≡ 0
Low (suc n) w s = (s % 256 ≤ w) × Low n w (s / 256)

-- a sum without a carry
add_low : (n s t w u : ℕ) → Low n w s → Low n u t → w + u < 256 → Low n (w + u) (s + t)
add_low zero s t w u p q h = omega arith
add_low (suc n) s t w u p q h =
    let a = p.0 in
    let b = q.0 in
    let e : (s + t) / 256 ≡ s / 256 + t / 256 = omega arith in
    (omega arith, rw e (add_low n (s / 256) (t / 256) w u p.1 q.1 h))

add_sum : (n s t w u : ℕ) → Low n w s → Low n u t → w + u < 256 → lane_sum n (s + t) ≡ lane_sum n s + lane_sum n t
unfolding lane_sum
add_sum zero s t w u p q h = refl
add_sum (suc n) s t w u p q h =
    let a = p.0 in
    let b = q.0 in
    let e : (s + t) / 256 ≡ s / 256 + t / 256 = omega arith in
    let f : (s + t) % 256 ≡ s % 256 + t % 256 = omega arith in
    let r = add_sum n (s / 256) (t / 256) w u p.1 q.1 h in
    rw (e, f) (omega (arith, r))

-- n and k, counted down from n
abbrev more : ℕ → ℕ → ℕ
more zero k = k
more (suc n) k = suc (more n k)

-- the costs of n bytes of two words
unfoldable word_cost : ℕ → ℕ → ℕ → ℕ
word_cost zero x y = 0
word_cost (suc n) x y = byte_cost x y + word_cost n (x / 256) (y / 256)

none_low : (k w : ℕ) → Low k w 0
none_low zero w = refl
none_low (suc k) w = (omega arith, none_low k w)

none_sum : (k : ℕ) → lane_sum k 0 ≡ 0
unfolding lane_sum
none_sum zero = refl
none_sum (suc k) = omega (arith, none_sum k)

-- n costs in a word with room for k more are at most 24 each
lanes_low : (n k x y : ℕ) → Low (more n k) 24 (lane_costs n x y)
unfolding lane_costs
lanes_low zero k x y = none_low k 24
lanes_low (suc n) k x y =
    let b = byte_most x y in
    let L = lane_costs n (x / 256) (y / 256) in
    let e : (L * 256 + byte_cost x y) / 256 ≡ L = omega arith in
    (omega arith, rw e (lanes_low n k (x / 256) (y / 256)))

-- and their sum is that of the word's bytes
lanes_sum : (n k x y : ℕ) → lane_sum (more n k) (lane_costs n x y) ≡ word_cost n x y
unfolding lane_costs lane_sum word_cost
lanes_sum zero k x y = none_sum k
lanes_sum (suc n) k x y =
    let b = byte_most x y in
    let L = lane_costs n (x / 256) (y / 256) in
    let e : (L * 256 + byte_cost x y) / 256 ≡ L = omega arith in
    let f : (L * 256 + byte_cost x y) % 256 ≡ byte_cost x y = omega arith in
    ap₂ (λ (p q : ℕ). p + lane_sum (more n k) q) f e ∙ ap (λ (p : ℕ). byte_cost x y + p) (lanes_sum n k (x / 256) (y / 256))

-- the lower half of eight costs are the costs of the lower four bytes
lower_four : (x y : ℕ) → lane_costs 8 x y % 4294967296 ≡ lane_costs 4 x y
unfolding lane_costs
lower_four x y =
    let x₁ = x / 256 in
    let x₂ = x₁ / 256 in
    let x₃ = x₂ / 256 in
    let y₁ = y / 256 in
    let y₂ = y₁ / 256 in
    let y₃ = y₂ / 256 in
    cut (lane_costs 4 (x₃ / 256) (y₃ / 256)) (byte_cost x₃ y₃) (byte_cost x₂ y₂) (byte_cost x₁ y₁) (byte_cost x y) (byte_most x₃ y₃)
    (byte_most x₂ y₂) (byte_most x₁ y₁) (byte_most x y)
  where
    cut : (a p q r s : ℕ) → p ≤ 24 → q ≤ 24 → r ≤ 24 → s ≤ 24
        → ((((a * 256 + p) * 256 + q) * 256 + r) * 256 + s) % 4294967296 ≡ (((0 * 256 + p) * 256 + q) * 256 + r) * 256 + s
    cut a p q r s h i j k = omega arith

-- ---- bytes of lists

-- the costs of n bytes from place i on
unfoldable cost_from : ℕ → List ℕ → List ℕ → ℕ → ℕ
cost_from zero xs ys i = 0
cost_from (suc n) xs ys i = byte_cost (get_or xs i 0) (get_or ys i 0) + cost_from n xs ys (suc i)

-- the codes of a byte below others are its own
codes_of : (a p : ℕ)
    → ((a % 256 + 256 * p) % 4 ≡ a % 4)
    × ((a % 256 + 256 * p) / 4 % 4 ≡ a / 4 % 4)
    × ((a % 256 + 256 * p) / 16 % 4 ≡ a / 16 % 4)
    × ((a % 256 + 256 * p) / 64 % 4 ≡ a / 64 % 4)
codes_of a p =
    let r : ℕ = a % 256 in (
      omega arith,
      same ((r + 256 * p) / 4) (a / 4) (16 * p) (16 * (a / 256)) (r / 4) (omega arith) (omega arith),
      same ((r + 256 * p) / 16) (a / 16) (4 * p) (4 * (a / 256)) (r / 16) (omega arith) (omega arith),
      same ((r + 256 * p) / 64) (a / 64) p (a / 256) (r / 64) (omega arith) (omega arith),
    )
  where
    same : (u w p q r : ℕ) → u ≡ 4 * p + r → w ≡ 4 * q + r → u % 4 ≡ w % 4
    same u w p q r e f = omega arith

byte_below : (a b p q : ℕ) → byte_cost (a % 256 + 256 * p) (b % 256 + 256 * q) ≡ byte_cost a b
unfolding byte_cost
byte_below a b p q =
    let x = codes_of a p in
    let y = codes_of b q in
    rw (x.0, x.1, x.2, x.3, y.0, y.1, y.2, y.3)

-- the first n of the bytes in a word
packed_cost : (n k : ℕ) (xs ys : List ℕ) (i : ℕ)
    → word_cost n (packed (more n k) xs i) (packed (more n k) ys i) ≡ cost_from n xs ys i
unfolding word_cost packed cost_from
packed_cost zero k xs ys i = refl
packed_cost (suc n) k xs ys i =
    let a = get_or xs i 0 in
    let b = get_or ys i 0 in
    let p = packed (more n k) xs (suc i) in
    let q = packed (more n k) ys (suc i) in
    let e : (a % 256 + 256 * p) / 256 ≡ p = omega arith in
    let f : (b % 256 + 256 * q) / 256 ≡ q = omega arith in
    ap₂ (λ (u v : ℕ). u + v) (byte_below a b p q) (ap₂ (word_cost n) e f ∙ packed_cost n k xs ys (suc i))

-- n bytes, then k
from_more : (n k : ℕ) (xs ys : List ℕ) (i j : ℕ) → j ≡ i + n
    → cost_from (more n k) xs ys i ≡ cost_from n xs ys i + cost_from k xs ys j
unfolding cost_from
from_more zero k xs ys i j e =
    let f : j ≡ i = omega arith in
    rw f (omega arith)
from_more (suc n) k xs ys i j e =
    let r = from_more n k xs ys (suc i) j (omega arith) in
    omega (arith, r)

more_one : (n : ℕ) → more n 1 ≡ suc n
more_one zero = refl
more_one (suc n) = ap suc (more_one n)

-- the first m bytes are 4 · m codes
from_codes : (m : ℕ) (xs ys : List ℕ) → cost_from m xs ys 0 ≡ body_cost (4 * m) xs ys
unfolding cost_from body_cost
from_codes zero xs ys = refl
from_codes (suc m) xs ys =
    let z : m ≡ 0 + m = omega arith in
    let f : cost_from (suc m) xs ys 0 ≡ cost_from m xs ys 0 + cost_from 1 xs ys m =
    ap (λ (n : ℕ). cost_from n xs ys 0) (sym (more_one m)) ∙ from_more m 1 xs ys 0 m z in
    let g : cost_from 1 xs ys m ≡ byte_cost (get_or xs m 0) (get_or ys m 0) = omega arith in
    f ∙ ap₂ (λ (p q : ℕ). p + q) (from_codes m xs ys) g ∙ sym (byte_more m xs ys)

-- ---- the words that the code makes

-- eight bytes
le_word : (xs : List ℕ) → ((i : ℕ) → get_or xs i 0 < 256) → from_le_bytes w64 xs ≡ packed 8 xs 0
unfolding packed
le_word xs h = omega (arith, h 0, h 1, h 2, h 3, h 4, h 5, h 6, h 7)

-- their costs
pub eight_is : (xs ys : List ℕ) → ((i : ℕ) → get_or xs i 0 < 256) → ((i : ℕ) → get_or ys i 0 < 256) → (a b r : ℕ)
    → a ≡ from_le_bytes w64 xs → b ≡ from_le_bytes w64 ys → r ≡ lane_costs 8 a b → r ≡ eight_costs xs ys 0
eight_is xs ys h k a b r p q e = rw (e, p, q, le_word xs h, le_word ys k)

-- ---- chunks of bytes

-- a place of the chunk at i, in the whole
abbrev place : ℕ → ℕ → ℕ → ℕ
place zero m j = j
place (suc i) m j = m + place i m j

packed_take : (n m : ℕ) (xs : List ℕ) (j : ℕ) → j + n ≤ m → packed n (take m xs) j ≡ packed n xs j
unfolding packed
packed_take zero m xs j h = refl
packed_take (suc n) m xs j h = rw (get_or-take m xs j 0 (omega arith), packed_take n m xs (suc j) (omega arith))

packed_drop : (n m : ℕ) (xs : List ℕ) (j k : ℕ) → k ≡ m + j → packed n (drop m xs) j ≡ packed n xs k
unfolding packed
packed_drop zero m xs j k e = refl
packed_drop (suc n) m xs j k e = rw (get_or-drop m xs j 0, ← e, packed_drop n m xs (suc j) (suc k) (omega arith))

chunk_packed : (n m c i j : ℕ) (xs : List ℕ) → i < c → j + n ≤ m → packed n (get_or (first_chunks m c xs) i []) j ≡ packed n xs (place i m j)
chunk_packed n m zero i j xs h l = absurd (omega arith)
chunk_packed n m (suc c) zero j xs h l = packed_take n m xs j l
chunk_packed n m (suc c) (suc i) j xs h l =
    chunk_packed n m c i j (drop m xs) (omega arith) l ∙ packed_drop n m xs (place i m j) (m + place i m j) refl

-- the costs of eight bytes of two chunks are those of the bytes in the whole
chunk_costs : (m c i j : ℕ) (xs ys : List ℕ) → i < c → j + 8 ≤ m
    → eight_costs (get_or (first_chunks m c xs) i []) (get_or (first_chunks m c ys) i []) j ≡ eight_costs xs ys (place i m j)
chunk_costs m c i j xs ys h l = ap₂ (lane_costs 8) (chunk_packed 8 m c i j xs h l) (chunk_packed 8 m c i j ys h l)

eight_at : (c i : ℕ) (xs ys : List ℕ) (us vs : List (List ℕ)) (a : ℕ) → i < c → us ≡ first_chunks 8 c xs → vs ≡ first_chunks 8 c ys
    → a ≡ eight_costs (get_or us i []) (get_or vs i []) 0 → a ≡ eight_costs xs ys (place i 8 0)
eight_at c i xs ys us vs a h p q e =
    e ∙ ap₂ (λ (u v : List (List ℕ)). eight_costs (get_or u i []) (get_or v i []) 0) p q ∙ chunk_costs 8 c i 0 xs ys h (omega arith)

-- 32 bytes of two wholes of 32
pub four_is : (xs ys : List ℕ) (us vs : List (List ℕ)) (a b c d : ℕ) → length xs ≡ 32 → length ys ≡ 32
    → us ≡ first_chunks 8 (length xs / 8) xs → vs ≡ first_chunks 8 (length ys / 8) ys
    → a ≡ eight_costs (get_or us 0 []) (get_or vs 0 []) 0
    → b ≡ eight_costs (get_or us 1 []) (get_or vs 1 []) 0
    → c ≡ eight_costs (get_or us 2 []) (get_or vs 2 []) 0
    → d ≡ eight_costs (get_or us 3 []) (get_or vs 3 []) 0
    → a + b + c + d ≡ four_costs xs ys 0
four_is xs ys us vs a b c d x y m n e f g h =
    let p : us ≡ first_chunks 8 4 xs = rw x at m in
    let q : vs ≡ first_chunks 8 4 ys = rw y at n in
    let i = eight_at 4 0 xs ys us vs a (omega arith) p q e in
    let j = eight_at 4 1 xs ys us vs b (omega arith) p q f in
    let k = eight_at 4 2 xs ys us vs c (omega arith) p q g in
    let l = eight_at 4 3 xs ys us vs d (omega arith) p q h in
    rw (i, j, k, l)

-- and of two chunks of 32
four_at : (i : ℕ) (xs ys : List ℕ) (us vs : List (List ℕ)) (a : ℕ) → i < 2 → us ≡ first_chunks 32 2 xs → vs ≡ first_chunks 32 2 ys
    → a ≡ four_costs (get_or us i []) (get_or vs i []) 0
    → a ≡ eight_costs xs ys (place i 32 0) + eight_costs xs ys (place i 32 8) + eight_costs xs ys (place i 32 16) + eight_costs xs ys (place i 32 24)
four_at i xs ys us vs a h p q e =
    e
    ∙ ap₂ (λ (u v : List (List ℕ)). four_costs (get_or u i []) (get_or v i []) 0) p q
    ∙ ap₂ (λ (u v : ℕ). u + v)
    (ap₂ (λ (u v : ℕ). u + v)
    (ap₂ (λ (u v : ℕ). u + v) (chunk_costs 32 2 i 0 xs ys h (omega arith)) (chunk_costs 32 2 i 8 xs ys h (omega arith)))
    (chunk_costs 32 2 i 16 xs ys h (omega arith)))
    (chunk_costs 32 2 i 24 xs ys h (omega arith))

-- ---- the bodies

eight_low : (xs ys : List ℕ) (i : ℕ) → Low 8 24 (eight_costs xs ys i)
eight_low xs ys i = lanes_low 8 0 (packed 8 xs i) (packed 8 ys i)

eight_sum : (xs ys : List ℕ) (i : ℕ) → lane_sum 8 (eight_costs xs ys i) ≡ cost_from 8 xs ys i
eight_sum xs ys i = lanes_sum 8 0 (packed 8 xs i) (packed 8 ys i) ∙ packed_cost 8 0 xs ys i

module _ (xs ys : List ℕ) (i : ℕ) where
  abbrev a₀ : ℕ
  a₀ = eight_costs xs ys i

  abbrev a₁ : ℕ
  a₁ = eight_costs xs ys (i + 8)

  abbrev a₂ : ℕ
  a₂ = eight_costs xs ys (i + 16)

  abbrev a₃ : ℕ
  a₃ = eight_costs xs ys (i + 24)

  low₂ : Low 8 48 (a₀ + a₁)
  low₂ = add_low 8 a₀ a₁ 24 24 (eight_low xs ys i) (eight_low xs ys (i + 8)) (omega arith)

  low₃ : Low 8 72 (a₀ + a₁ + a₂)
  low₃ = add_low 8 (a₀ + a₁) a₂ 48 24 low₂ (eight_low xs ys (i + 16)) (omega arith)

  low₄ : Low 8 96 (four_costs xs ys i)
  low₄ = add_low 8 (a₀ + a₁ + a₂) a₃ 72 24 low₃ (eight_low xs ys (i + 24)) (omega arith)

  -- 32 bytes
  four_sum : lane_sum 8 (four_costs xs ys i) ≡ cost_from 32 xs ys i
  four_sum =
      let p = add_sum 8 (a₀ + a₁ + a₂) a₃ 72 24 low₃ (eight_low xs ys (i + 24)) (omega arith) in
      let q = add_sum 8 (a₀ + a₁) a₂ 48 24 low₂ (eight_low xs ys (i + 16)) (omega arith) in
      let r = add_sum 8 a₀ a₁ 24 24 (eight_low xs ys i) (eight_low xs ys (i + 8)) (omega arith) in
      let f = from_more 8 24 xs ys i (i + 8) refl in
      let g = from_more 8 16 xs ys (i + 8) (i + 16) (omega arith) in
      let h = from_more 8 8 xs ys (i + 16) (i + 24) (omega arith) in
      omega (
        arith,
        p,
        q,
        r,
        f,
        g,
        h,
        eight_sum xs ys i,
        eight_sum xs ys (i + 8),
        eight_sum xs ys (i + 16),
        eight_sum xs ys (i + 24),
      )

-- 12, 32 and 64 bytes
cost_12 : (xs ys : List ℕ) → lane_sum 8 (eight_costs xs ys 0 + eight_costs xs ys 8 % 4294967296) ≡ body_cost 48 xs ys
cost_12 xs ys =
    let x = packed 8 xs 8 in
    let y = packed 8 ys 8 in
    ap (λ (w : ℕ). lane_sum 8 (eight_costs xs ys 0 + w)) (lower_four x y)
    ∙ add_sum 8 (eight_costs xs ys 0) (lane_costs 4 x y) 24 24 (eight_low xs ys 0) (lanes_low 4 4 x y) (omega arith)
    ∙ ap₂ (λ (u v : ℕ). u + v) (eight_sum xs ys 0) (lanes_sum 4 4 x y ∙ packed_cost 4 4 xs ys 8)
    ∙ sym (from_more 8 4 xs ys 0 8 refl)
    ∙ from_codes 12 xs ys

cost_32 : (xs ys : List ℕ) → lane_sum 8 (four_costs xs ys 0) ≡ body_cost 128 xs ys
cost_32 xs ys = four_sum xs ys 0 ∙ from_codes 32 xs ys

cost_64 : (xs ys : List ℕ) → lane_sum 8 (four_costs xs ys 0 + four_costs xs ys 32) ≡ body_cost 256 xs ys
cost_64 xs ys =
    add_sum 8 (four_costs xs ys 0) (four_costs xs ys 32) 96 96 (low₄ xs ys 0) (low₄ xs ys 32) (omega arith)
    ∙ ap₂ (λ (u v : ℕ). u + v) (four_sum xs ys 0) (four_sum xs ys 32)
    ∙ sym (from_more 32 32 xs ys 0 32 refl)
    ∙ from_codes 64 xs ys

-- the short body: 8 bytes and 4
pub body_short : (xs ys : List ℕ) (us vs : List (List ℕ)) (a b r : ℕ) → length xs ≡ 64 → length ys ≡ 64
    → us ≡ first_chunks 8 (length xs / 8) xs → vs ≡ first_chunks 8 (length ys / 8) ys
    → a ≡ eight_costs (get_or us 0 []) (get_or vs 0 []) 0
    → b ≡ eight_costs (get_or us 1 []) (get_or vs 1 []) 0
    → r ≡ lane_sum 8 (a + b % 4294967296)
    → r ≡ body_cost 48 xs ys
body_short xs ys us vs a b r x y k l p o q =
    let m : us ≡ first_chunks 8 8 xs = rw x at k in
    let n : vs ≡ first_chunks 8 8 ys = rw y at l in
    let f = eight_at 8 0 xs ys us vs a (omega arith) m n p in
    let g = eight_at 8 1 xs ys us vs b (omega arith) m n o in
    rw (q, f, g) (cost_12 xs ys)

-- the normal body: 32 bytes
pub body_normal : (xs ys : List ℕ) (us vs : List (List ℕ)) (s r : ℕ) → length xs ≡ 64 → length ys ≡ 64
    → us ≡ first_chunks 32 (length xs / 32) xs → vs ≡ first_chunks 32 (length ys / 32) ys
    → s ≡ four_costs (get_or us 0 []) (get_or vs 0 []) 0 → r ≡ lane_sum 8 s → r ≡ body_cost 128 xs ys
body_normal xs ys us vs s r x y k l p q =
    let m : us ≡ first_chunks 32 2 xs = rw x at k in
    let n : vs ≡ first_chunks 32 2 ys = rw y at l in
    let f = four_at 0 xs ys us vs s (omega arith) m n p in
    rw (q, f) (cost_32 xs ys)

-- the long body: twice 32
pub body_long : (xs ys : List ℕ) (us vs : List (List ℕ)) (s t r : ℕ) → length xs ≡ 64 → length ys ≡ 64
    → us ≡ first_chunks 32 (length xs / 32) xs → vs ≡ first_chunks 32 (length ys / 32) ys
    → s ≡ four_costs (get_or us 0 []) (get_or vs 0 []) 0
    → t ≡ four_costs (get_or us 1 []) (get_or vs 1 []) 0
    → r ≡ lane_sum 8 (s + t)
    → r ≡ body_cost 256 xs ys
body_long xs ys us vs s t r x y k l p o q =
    let m : us ≡ first_chunks 32 2 xs = rw x at k in
    let n : vs ≡ first_chunks 32 2 ys = rw y at l in
    let f = four_at 0 xs ys us vs s (omega arith) m n p in
    let g = four_at 1 xs ys us vs t (omega arith) m n o in
    rw (q, f, g) (cost_64 xs ys)
