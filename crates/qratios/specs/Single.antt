-- Single-precision numbers that are not negative, in whole numbers only (docs/RULES.md, section 4, step 6).
-- A number is 0, or a whole significand from 8,388,608 to 16,777,215 times a power of two, or over one, as its 32 bits give them.
-- Nearest, tie and whole part are decided by multiplying out: no fraction stands here.
-- Assumes nothing.
use Rattle.std.specs.Prelude.{ℕ, zero, suc, ◌+◌, ◌-◌, ◌*◌, ◌/◌, ◌%◌, ◌^◌, cond, ◌==◌, nat_lt}
use Prim.Native.Nat.{compare, Ordering}

-- the number `sig` * 2 ^ `times` / 2 ^ `over`; one of the two powers is 1
pub record Single : Type 0 where
  pub sig : ℕ
  pub times : ℕ
  pub over : ℕ

-- 0
abbrev pub nought : Single
nought = record { sig = 0; times = 0; over = 0 }

-- a number is `top` / `bottom`
abbrev pub top : Single → ℕ
top x = x.sig * 2 ^ x.times

-- the power of two that it is over
abbrev pub bottom : Single → ℕ
bottom x = 2 ^ x.over

-- the whole part
abbrev pub whole : Single → ℕ
whole x = top x / bottom x

-- ---- the 32 bits: a clear sign, eight bits with 150 more than the power, and the significand without its leading one

-- the bits of a number
abbrev pub bits : Single → ℕ
bits x = cond (x.sig == 0) 0 ((150 + x.times - x.over) * 8_388_608 + (x.sig - 8_388_608))

-- the number of 32 bits with a clear sign; those whose eight bits are 0 stand for 0
abbrev pub single_from_bits : ℕ → Single
single_from_bits b =
    cond (nat_lt b 8_388_608) nought
    (record { sig = 8_388_608 + b % 8_388_608; times = b / 8_388_608 - 150; over = 150 - b / 8_388_608 })

-- ---- the number nearest to n / d

-- q, or the next whole number: by how twice the remainder compares with the divisor, and at a tie the even one
abbrev pub closer : ℕ → Ordering → ℕ
closer q Ordering.lt = q
closer q Ordering.eq = q + q % 2
closer q Ordering.gt = suc q

-- n / d to the nearest whole number
abbrev pub rounded : ℕ → ℕ → ℕ
rounded n d = closer (n / d) (compare (n % d * 2) d)

-- how often d is doubled until n / d is below 16,777,216, at most f times
unfoldable pub halvings : ℕ → ℕ → ℕ → ℕ
halvings zero n d = 0
halvings (suc f) n d = let more = suc (halvings f n (d * 2)) in cond (nat_lt n (16_777_216 * d)) 0 more

-- how often n is doubled until n / d is no less than 8,388,608, at most f times
unfoldable pub doublings : ℕ → ℕ → ℕ → ℕ
doublings zero n d = 0
doublings (suc f) n d = let more = suc (doublings f (n * 2) d) in cond (nat_lt n (8_388_608 * d)) more 0

-- 16,777,216 * 2 ^ u / 2 ^ v, for a u or a v of 0, with half the significand and the next power
abbrev pub twice : ℕ → ℕ → Single
twice u zero = record { sig = 8_388_608; times = suc u; over = 0 }
twice u (suc v) = record { sig = 8_388_608; times = u; over = v }

-- s * 2 ^ u / 2 ^ v, for an s from 8,388,608 to 16,777,216
abbrev pub carried : ℕ → ℕ → ℕ → Single
carried s u v = cond (nat_lt s 16_777_216) (record { sig = s; times = u; over = v }) (twice u v)

-- n / d scaled by a power of two, so that its whole part has 24 binary digits, then rounded once. A hundred doublings either way are more
-- than an n and a d below 2 ^ 64 need.
unfoldable pub single : ℕ → ℕ → Single
unfolding halvings doublings
single zero d = nought
single (suc m) d =
    let u = halvings 100 (suc m) d in
    let v = doublings 100 (suc m) d in
    carried (rounded (suc m * 2 ^ v) (d * 2 ^ u)) u v

-- the quotient of two numbers, for a y that is not 0
abbrev pub divided : Single → Single → Single
divided x y = single (top x * bottom y) (top y * bottom x)
