-- What each function shows of its answer, over plain values.
-- Assumes nothing.
use Rattle.std.proofs.Common.{◌≡◌, ℕ, ◌*◌, ◌%◌, ◌^◌, ◌<◌, ◌≤◌, true, false, leb, sym, refl, ◌∙◌, inl, inr, true≢false, le_trans, mod-lt, lit<, le-leb, leb-true}
use lib.Ieee.{Float, binary32, to_bits, div}
use borrow.Author.Tests.{lt-leb}
use Rattle.qratios.specs.Single.{whole, single_from_bits, single}
use Rattle.qratios.specs.Ratios.{float, reduced, quotient, floating_whole, UpTo, ordered}
use Rattle.qratios.specs.Ratios.{record_of}
use Rattle.qratios.proofs.Rounding.{below_or_not}
use Rattle.qratios.proofs.Divide.{quotient_is}
use Rattle.qratios.proofs.Ieee.{divided_is}
use Rattle.qratios.proofs.Truncate.{truncates, low_of_float, whole_of_float}

-- ---- the order of the quartiles

-- a q1 above q2 is out of order
pub first_above : (q1 q2 q3 : ℕ) → q2 < q1 → false ≡ ordered q1 q2 q3
first_above q1 q2 q3 h = rw (lt-leb q1 q2 h)

-- so is a q2 above q3
pub second_above : (q1 q2 q3 : ℕ) → q1 ≤ q2 → q3 < q2 → false ≡ ordered q1 q2 q3
second_above q1 q2 q3 h k = rw (le-leb q1 q2 h, lt-leb q2 q3 k)

-- else q3 decides
pub third_decides : (q1 q2 q3 : ℕ) → q1 ≤ q2 → q2 ≤ q3 → leb 1 q3 ≡ ordered q1 q2 q3
third_decides q1 q2 q3 h k = rw (le-leb q1 q2 h, le-leb q2 q3 k)

-- quartiles that rise to a q3 from 1 on are in order
pub in_order : (q1 q2 q3 : ℕ) → q1 ≤ q2 → q2 ≤ q3 → 1 ≤ q3 → ordered q1 q2 q3 ≡ true
in_order q1 q2 q3 a b c = rw (le-leb q1 q2 a, le-leb q2 q3 b, le-leb 1 q3 c)

-- q1 is at most q2 in quartiles in order
pub ordered_first : (q1 q2 q3 : ℕ) → ordered q1 q2 q3 ≡ true → q1 ≤ q2
ordered_first q1 q2 q3 e =
    elim (below_or_not q2 q1) [ inl l ↦ absurd (true≢false (sym e ∙ sym (first_above q1 q2 q3 l))) | inr g ↦ g ]

-- q2 is at most q3
pub ordered_second : (q1 q2 q3 : ℕ) → ordered q1 q2 q3 ≡ true → q2 ≤ q3
ordered_second q1 q2 q3 e =
    let h = ordered_first q1 q2 q3 e in
    elim (below_or_not q3 q2) [ inl l ↦ absurd (true≢false (sym e ∙ sym (second_above q1 q2 q3 h l))) | inr g ↦ g ]

-- q3 is not 0
pub ordered_third : (q1 q2 q3 : ℕ) → ordered q1 q2 q3 ≡ true → 0 < q3
ordered_third q1 q2 q3 e = leb-true 1 q3 (third_decides q1 q2 q3 (ordered_first q1 q2 q3 e) (ordered_second q1 q2 q3 e) ∙ e)

-- so q1 is fit for the floating path
pub first_fit : (q1 q2 q3 : ℕ) → ordered q1 q2 q3 ≡ true → UpTo q1 q3
first_fit q1 q2 q3 e = record { some = ordered_third q1 q2 q3 e; most = le_trans (ordered_first q1 q2 q3 e) (ordered_second q1 q2 q3 e) }

-- and so is q2
pub second_fit : (q1 q2 q3 : ℕ) → ordered q1 q2 q3 ≡ true → UpTo q2 q3
second_fit q1 q2 q3 e = record { some = ordered_third q1 q2 q3 e; most = ordered_second q1 q2 q3 e }

-- ---- the floating path

-- two conversions and a division make the quotient
pub quotient_made : (q q3 p : ℕ) (x y : Float) → 0 < q3 → q3 < 2 ^ 32 → p ≡ reduced q → x ≡ float (single p 1) → y ≡ float (single q3 1)
    → div binary32 x y ≡ float (quotient q q3)
quotient_made q q3 p x y R r-lt e f g =
    rw (f, g, e, quotient_is q q3 (reduced q) refl) (divided_is (reduced q) q3 (mod-lt (100 * q) (lit< tt)) R r-lt)

-- its bits are low enough to truncate
pub quotient_low : (q q3 : ℕ) (x : Float) → UpTo q q3 → q3 < 2 ^ 32 → x ≡ float (quotient q q3) → to_bits binary32 x < 0x4b80_0000
quotient_low q q3 x b r-lt e = low_of_float x (quotient q q3) (truncates q q3 b.some r-lt b.most) e

-- they give its whole part
pub quotient_whole : (q q3 : ℕ) (x : Float) (w : ℕ) → UpTo q q3 → q3 < 2 ^ 32 → x ≡ float (quotient q q3)
    → w ≡ whole (single_from_bits (to_bits binary32 x)) → w ≡ floating_whole q q3
quotient_whole q q3 x w b r-lt e f = f ∙ whole_of_float x (quotient q q3) (truncates q q3 b.some r-lt b.most) e

-- and so its ratio
pub floating_made : (q q3 : ℕ) (x : Float) (w : ℕ) → UpTo q q3 → q3 < 2 ^ 32 → x ≡ float (quotient q q3)
    → w ≡ whole (single_from_bits (to_bits binary32 x)) → w % 16 ≡ floating_whole q q3 % 16
floating_made q q3 x w b r-lt e f = rw (quotient_whole q q3 x w b r-lt e f)

-- what the proof of `qratios::ratio_by` cites
pub ruleset floating = (quotient_low, floating_made)

-- a quartile up to a q3 that is not 0 is fit for the floating path
pub fits : (q q3 : ℕ) → 0 < q3 → q ≤ q3 → UpTo q q3
fits q q3 some most = record { some = some; most = most }

-- two quotients and their whole parts make the ratio record
pub record_made : (q1 q2 q3 : ℕ) (x1 x2 : Float) (w1 w2 : ℕ) → UpTo q1 q3 → UpTo q2 q3 → q3 < 2 ^ 32
    → x1 ≡ float (quotient q1 q3) → x2 ≡ float (quotient q2 q3)
    → w1 ≡ whole (single_from_bits (to_bits binary32 x1)) → w2 ≡ whole (single_from_bits (to_bits binary32 x2))
    → record { quotient1 = x1; quotient2 = x2; whole1 = w1; whole2 = w2 } ≡ record_of (quotient q1 q3) (quotient q2 q3)
record_made q1 q2 q3 x1 x2 w1 w2 a b r-lt e1 e2 f1 f2 =
    rw (quotient_whole q1 q3 x1 w1 a r-lt e1 f1, quotient_whole q2 q3 x2 w2 b r-lt e2 f2, e1, e2)

-- what the proof of `qratios::Ordered::ratios` cites
pub ruleset recording = (quotient_low, fits, record_made)
