-- Demand 3 for whole digests: with all other options equal, both ratio paths give the same digest or refusal within the farther bound, and
-- so within the bound.
-- Assumes nothing.
use mathlib.Core.Path.{◌≡◌, refl, sym, ◌∙◌, ap}
use mathlib.Core.Bool.{Bool, true, false}
use mathlib.Core.List.{List}
use Prim.Native.Nat.{ℕ, ◌+◌, ◌/◌, ◌%◌, ◌≤◌, ◌<◌}
use native.Mathlib.Nat.{le_trans}
use native.Mathlib.Omega.{arith}
use native.Mathlib.Decide.{dec_lt}
use lib.Dec.{eqb}
use lib.ListN.{length, take}
use borrow.Author.Tests.{lt-ltb, le-ltb, eqb-false}
use Rattle.std.specs.Prelude.{Option, Result, Ok, Err}
use Rattle.params.specs.declared.Refusal.{Refusal}
use Rattle.params.specs.Variants.{known}
use Rattle.length.specs.Code.{coded}
use Rattle.quartile.specs.declared.Quartiles.{Quartiles}
use Rattle.quartile.specs.Quartile.{quartiles}
use Rattle.qratios.specs.Demands.{agreeing_third}
use Rattle.qratios.proofs.Demands.{ratios_agree}
use Rattle.generate.specs.declared.State.{State}
use Rattle.generate.specs.Feed.{fresh, feed}
use Rattle.generate.specs.Answer.{processed}
use Rattle.generate.proofs.Reached.{variant_stays}
use Rattle.options.specs.Options.{flags, has, chosen}
use Rattle.finalize.specs.Final.{counts_as, is_too_small, is_three_quarter_empty, is_half_empty, replaced, digest_by, distributed, with_code}
use Rattle.finalize.specs.Final.{measured, with_length, finalized_with, finalized_by, finalized, digest_of}
use Rattle.finalize.proofs.Laws.{replaced_ordered}
use Rattle.promises.specs.Demands.{far_bound, PathsAgree, NumbersAgree, PathsAgreeFarther, NumbersAgreeFarther}
use Rattle.promises.proofs.Third.{bound_within, third_agreeing}

-- a third quartile of at most 262,146 stays one where all three become 1
replaced_agreeing : (q : Quartiles) (b : Bool) → eqb q.q3 0 ≡ b → q.q3 ≤ agreeing_third → (replaced q).q3 ≤ agreeing_third
unfolding replaced
replaced_agreeing q true e h = rw e (omega arith)
replaced_agreeing q false e h = rw e h

-- such a third quartile makes one record by both paths
records_agree : (used : List ℕ) (v checksum code : ℕ) → (quartiles used).q3 ≤ agreeing_third
    → digest_by (replaced (quartiles used)) used v checksum code false ≡ digest_by (replaced (quartiles used)) used v checksum code true
unfolding digest_by
records_agree used v checksum code h =
    let q = replaced (quartiles used) in
    let o = replaced_ordered used (quartiles used) q refl refl in
    rw (ratios_agree q.q1 q.q2 q.q3 o (replaced_agreeing (quartiles used) (eqb (quartiles used).q3 0) refl h))

-- a code's record is the same by both paths, and a length without a code is refused
code_agrees : (l : Result ℕ Refusal) (t : State) (c s h q : Bool)
    → ((code : ℕ)
    → digest_by (replaced (quartiles (take t.variant t.counters))) (take t.variant t.counters) t.variant t.checksum code
    false
    ≡ digest_by (replaced (quartiles (take t.variant t.counters))) (take t.variant t.counters) t.variant t.checksum code
    true)
    → with_code l t (flags c false s h q) ≡ with_code l t (flags c true s h q)
unfolding with_code distributed is_three_quarter_empty is_half_empty
code_agrees (Ok code) t c s h q e = rw (e code)
code_agrees (Err x) t c s h q e = refl

-- the tests do not see the ratio flag, so the steps agree where the records do
steps_agree : (a : Result (Option ℕ) Refusal) (t : State) (c s h q : Bool)
    → ((code : ℕ)
    → digest_by (replaced (quartiles (take t.variant t.counters))) (take t.variant t.counters) t.variant t.checksum code
    false
    ≡ digest_by (replaced (quartiles (take t.variant t.counters))) (take t.variant t.counters) t.variant t.checksum code
    true)
    → with_length a t (flags c false s h q) ≡ with_length a t (flags c true s h q)
unfolding with_length measured is_too_small
steps_agree (Ok n) t c s h q e = rw (code_agrees (coded (counts_as n)) t c s h q e)
steps_agree (Err x) t c s h q e = refl

-- without a processed length there is a refusal, by both paths the same
given_by : (t : State) (k : Bool) → known t.variant ≡ k → (c s h q : Bool)
    → (known t.variant ≡ true → with_length (processed t) t (flags c false s h q) ≡ with_length (processed t) t (flags c true s h q))
    → with_length (processed t) t (flags c false s h q) ≡ with_length (processed t) t (flags c true s h q)
unfolding processed with_length
given_by t true e c s h q m = m e
given_by t false e c s h q m = rw e

-- for any state whose third quartile is at most 262,146, however long its input was
pub state_agrees : (t : State) (c s h q : Bool)
    → (known t.variant ≡ true → (quartiles (take t.variant t.counters)).q3 ≤ agreeing_third)
    → finalized_with t (flags c false s h q) ≡ finalized_with t (flags c true s h q)
unfolding finalized_with
state_agrees t c s h q m =
    given_by t (known t.variant) refl c s h q (λ k. steps_agree (processed t) t c s h q (λ code.
    records_agree (take t.variant t.counters) t.variant t.checksum code (m k)))

-- within the farther bound
pub paths_agree_farther : PathsAgreeFarther
paths_agree_farther v bytes c s h q b =
    state_agrees (feed bytes (fresh v)) c s h q (rw (variant_stays v bytes) (λ k. third_agreeing v bytes k b))

-- Demand 3: within the bound
pub paths_agree : PathsAgree
paths_agree v bytes c s h q b = paths_agree_farther v bytes c s h q (le_trans b (bound_within v))

-- ---- by option numbers

even : (k : ℕ) → eqb (k % 2) 1 ≡ false → k % 2 ≡ 0
even k e =
    let z : k % 2 ≡ 1 → ⊥ = eqb-false (k % 2) 1 e in
    omega (arith, z)

even_next : (k : ℕ) → k % 2 ≡ 0 → (k + 1) % 2 ≡ 1
even_next k e = omega arith

even_half : (k : ℕ) → k % 2 ≡ 0 → (k + 1) / 2 ≡ k / 2
even_half k e = omega arith

by_four : (k : ℕ) → k / 4 ≡ k / 2 / 2
by_four k = omega arith

by_eight : (k : ℕ) → k / 8 ≡ k / 4 / 2
by_eight k = omega arith

by_sixteen : (k : ℕ) → k / 16 ≡ k / 8 / 2
by_sixteen k = omega arith

-- adding 2 to a number that lacks the ratio flag sets it and leaves the others
pub flags_raised : (n : ℕ) → has 2 n ≡ false
    → flags (has 1 (n + 2)) (has 2 (n + 2)) (has 4 (n + 2)) (has 8 (n + 2)) (has 16 (n + 2))
    ≡ flags (has 1 n) true (has 4 n) (has 8 n) (has 16 n)
flags_raised n f =
    let e : n / 2 % 2 ≡ 0 = even (n / 2) f in
    let a : (n + 2) / 1 % 2 ≡ n / 1 % 2 = omega arith in
    let m : (n + 2) / 2 ≡ n / 2 + 1 = omega arith in
    let b : (n + 2) / 2 % 2 ≡ 1 = ap (λ (k : ℕ). k % 2) m ∙ even_next (n / 2) e in
    let c : (n + 2) / 4 ≡ n / 4 = by_four (n + 2) ∙ ap (λ (k : ℕ). k / 2) m ∙ even_half (n / 2) e ∙ sym (by_four n) in
    let d : (n + 2) / 8 ≡ n / 8 = by_eight (n + 2) ∙ ap (λ (k : ℕ). k / 2) c ∙ sym (by_eight n) in
    let g : (n + 2) / 16 ≡ n / 16 = by_sixteen (n + 2) ∙ ap (λ (k : ℕ). k / 2) d ∙ sym (by_sixteen n) in
    rw (a, b, c, d, g)

-- above 31 both are refused; with bit 2 clear and at most 31, so is the number that has it set
numbers_by : (v n : ℕ) (bytes : List ℕ) → has 2 n ≡ false → length bytes ≤ far_bound v → Dec (31 < n)
    → digest_of v n bytes ≡ digest_of v (n + 2) bytes
unfolding digest_of finalized finalized_by chosen
numbers_by v n bytes f b (yes l) = rw (lt-ltb 31 n l, lt-ltb 31 (n + 2) (omega arith))
numbers_by v n bytes f b (no l) =
    rw (le-ltb 31 n (omega arith), le-ltb 31 (n + 2) (omega (arith, even (n / 2) f)), flags_raised n f, f)
    (paths_agree_farther v bytes (has 1 n) (has 4 n) (has 8 n) (has 16 n) b)

pub numbers_agree_farther : NumbersAgreeFarther
numbers_agree_farther v n bytes f b = numbers_by v n bytes f b (dec_lt 31 n)

pub numbers_agree : NumbersAgree
numbers_agree v n bytes f b = numbers_agree_farther v n bytes f (le_trans b (bound_within v))
