-- The entry points: one law for each way out that the check does not find by itself.
-- Assumes nothing.
use mathlib.Core.Path.{◌≡◌, refl, sym, ◌∙◌, ap}
use mathlib.Core.Bool.{Bool, true, false, not}
use mathlib.Core.List.{List, [], ◌∷◌, ◌++◌}
use Prim.Native.Nat.{ℕ, ◌^◌, ◌≤◌, ◌<◌}
use native.Mathlib.Omega.{arith}
use lib.Dec.{T, ltb}
use lib.Ieee.{binary32, to_bits, is_nan}
use lib.ListN.{length}
use borrow.Author.Tests.{lt-ltb, le-ltb}
use Rattle.std.specs.Prelude.{Result, Ok, Err}
use Rattle.params.specs.declared.Refusal.{Refusal}
use Rattle.params.specs.declared.Refusal.TheVariants.{UnknownVariant, ShortDestination, UnknownOption, UnorderedQuartiles}
use Rattle.params.specs.Variants.{known}
use Rattle.qratios.specs.declared.Ratios.{Ratios}
use Rattle.qratios.specs.Ratios.{quotient, ordered, record_of, ratios_of}
use Rattle.qratios.proofs.Truncate.{Truncates, truncates}
use Rattle.qratios.proofs.Answers.{first_fit, second_fit}
use Rattle.hash.specs.declared.Digest.{Digest}
use Rattle.text.specs.Text.{text_size, size_of, write_of, Written}
use Rattle.parse.specs.Reading.{read_of}
use Rattle.generate.specs.declared.State.{State}
use Rattle.generate.specs.Feed.{fresh, feed}
use Rattle.generate.specs.Answer.{marked, Updated, new_answer, updated}
use Rattle.generate.proofs.Chunks.{updated_none, two_updates}
use Rattle.options.specs.declared.Options.{Options}
use Rattle.options.specs.Options.{chosen}
use Rattle.finalize.specs.Final.{finalized, digest_of}
use Rattle.saltcurtain.specs.Entries.{argument_answer, given, digested, rewritten, ratios_written}

-- an answer that has no value
abbrev Answer : Type 0
Answer = Result (Unit {0}) Refusal

-- ---- the arguments

-- where a number has options, it is at most 31
few_by : (n : ℕ) (o : Options) (b : Bool) → ltb 31 n ≡ b → Ok o ≡ chosen n → ltb 31 n ≡ false
unfolding chosen
few_by n o true p q = let h : ◌≡◌ {A = Result Options Refusal} (Ok o) (Err UnknownOption) = rw p at q in absurd cc
few_by n o false p q = p

few : (n : ℕ) (o : Options) → Ok o ≡ chosen n → ltb 31 n ≡ false
few n o = few_by n o (ltb 31 n) refl

-- a size is that of a known variant's text
sized_by : (v s : ℕ) (k : Bool) → known v ≡ k → Ok s ≡ size_of v → (known v ≡ true) × (s ≡ text_size v)
unfolding size_of
sized_by v s true p q = let h : ◌≡◌ {A = Result ℕ Refusal} (Ok s) (Ok (text_size v)) = rw p at q in (p, cc)
sized_by v s false p q = let h : ◌≡◌ {A = Result ℕ Refusal} (Ok s) (Err UnknownVariant) = rw p at q in absurd cc

sized : (v s : ℕ) → Ok s ≡ size_of v → (known v ≡ true) × (s ≡ text_size v)
sized v s = sized_by v s (known v) refl

unsized_by : (v : ℕ) (e : Refusal) (k : Bool) → known v ≡ k → Err e ≡ size_of v → (known v ≡ false) × (e ≡ UnknownVariant)
unfolding size_of
unsized_by v e true p q = let h : ◌≡◌ {A = Result ℕ Refusal} (Err e) (Ok (text_size v)) = rw p at q in absurd cc
unsized_by v e false p q = let h : ◌≡◌ {A = Result ℕ Refusal} (Err e) (Err UnknownVariant) = rw p at q in (p, cc)

unsized : (v : ℕ) (e : Refusal) → Err e ≡ size_of v → (known v ≡ false) × (e ≡ UnknownVariant)
unsized v e = unsized_by v e (known v) refl

-- 10
options_by : (v n room : ℕ) (e : Refusal) (b : Bool) → ltb 31 n ≡ b → Err e ≡ chosen n → Err e ≡ argument_answer v n room
unfolding chosen argument_answer
options_by v n room e true p q =
    let h : ◌≡◌ {A = Result Options Refusal} (Err e) (Err UnknownOption) = rw p at q in
    let s : e ≡ UnknownOption = cc in
    rw (p, s)
options_by v n room e false p q = let h = rw p at q in absurd cc

pub argument_options : (v n room : ℕ) (e : Refusal) → Err e ≡ chosen n → Err e ≡ argument_answer v n room
argument_options v n room e = options_by v n room e (ltb 31 n) refl

module _ (v n room : ℕ) (o : Options) (c : Ok o ≡ chosen n) where
  -- 6
  pub argument_variant : (e : Refusal) → Err e ≡ size_of v → Err e ≡ argument_answer v n room
  unfolding argument_answer
  argument_variant e q = let u = unsized v e q in rw (few n o c, u.0, u.1)

  -- 7
  pub argument_room : (s : ℕ) → Ok s ≡ size_of v → room < s → Err ShortDestination ≡ argument_answer v n room
  unfolding argument_answer
  argument_room s q h = let z = sized v s q in rw (few n o c, z.0, lt-ltb room (text_size v) (omega (arith, z.1)))

  -- none of them
  pub argument_done : (s : ℕ) → Ok s ≡ size_of v → s ≤ room → Ok (tt {0}) ≡ argument_answer v n room
  unfolding argument_answer
  argument_done s q h = let z = sized v s q in rw (few n o c, z.0, le-ltb room (text_size v) (omega (arith, z.1)))

-- arguments that are judged well have a known variant
known_by : (v n room : ℕ) (b k : Bool) → ltb 31 n ≡ b → known v ≡ k → Ok (tt {0}) ≡ argument_answer v n room → known v ≡ true
unfolding argument_answer
known_by v n room true k p q e = let h : ◌≡◌ {A = Answer} (Ok tt) (Err UnknownOption) = rw p at e in absurd cc
known_by v n room false true p q e = q
known_by v n room false false p q e = let h : ◌≡◌ {A = Answer} (Ok tt) (Err UnknownVariant) = rw (p, q) at e in absurd cc

-- ---- the one-shot digest
module _ (v n : ℕ) (bytes lent : List ℕ) where
  -- the arguments' refusal leaves the memory
  pub digested_refused : (e : Refusal) → Err e ≡ argument_answer v n (length lent) → Written (Err e) lent (digested v n bytes lent)
  unfolding digested
  digested_refused e a = rw (← a) (record { answered = refl; left = refl })

  module _ (a : Ok (tt {0}) ≡ argument_answer v n (length lent)) where
    is_known : known v ≡ true
    is_known = known_by v n (length lent) (ltb 31 n) (known v) refl refl a

    new_fresh : new_answer v ≡ Ok (fresh v)
    unfolding new_answer
    new_fresh = rw is_known

    -- a fresh state is refused nothing
    taken : updated (fresh v) bytes ≡ record { answer = Ok (tt {0}); state = feed bytes (fresh v) }
    unfolding updated fresh marked
    taken = rw is_known

    -- a state is given
    pub digested_new : (e : Refusal) → Err e ≡ new_answer v → Written (Err e) lent (digested v n bytes lent)
    digested_new e q = let h = new_fresh in absurd cc

    -- it takes the bytes
    pub digested_fed : (s : State) (e : Refusal) → Ok s ≡ new_answer v → (updated s bytes).answer ≡ Err e
        → Written (Err e) lent (digested v n bytes lent)
    digested_fed s e q r =
        let h = new_fresh in
        let f : s ≡ fresh v = cc in
        let g : ◌≡◌ {A = Answer} (Ok tt) (Err e) = sym (ap (λ (u : Updated). u.answer) taken) ∙ rw f at r in
        absurd cc

    -- the answer is that of the state after all bytes
    pub digested_done : (s t : State) (r : Answer) (l : List ℕ) → Ok s ≡ new_answer v → t ≡ (updated s bytes).state
        → Written r l (given (finalized t n) lent) → Written r l (digested v n bytes lent)
    unfolding digested digest_of
    digested_done s t r l q p w =
        let h = new_fresh in
        let f : s ≡ fresh v = cc in
        let g : t ≡ feed bytes (fresh v) = p ∙ rw f (ap (λ (u : Updated). u.state) taken) in
        rw (← a, ← g) w

-- ---- pieces

-- a refused update refuses all that follows, and leaves the state
refused_by : (s : State) (xs ys : List ℕ) (e : Refusal) (k m : Bool) → known s.variant ≡ k → marked s.length s.tail_len ≡ m
    → (updated s xs).answer ≡ Err e → updated s ys ≡ record { answer = Err e; state = s }
unfolding updated
refused_by s xs ys e true true p q r = let h = rw (p, q) at r in rw (p, q) (ap (λ (x : Answer). record { answer = x; state = s }) h)
refused_by s xs ys e true false p q r = let h = rw (p, q) at r in absurd cc
refused_by s xs ys e false m p q r = let h = rw p at r in rw p (ap (λ (x : Answer). record { answer = x; state = s }) h)

pub refused : (s : State) (xs ys : List ℕ) (e : Refusal) → (updated s xs).answer ≡ Err e → updated s ys ≡ record { answer = Err e; state = s }
refused s xs ys e = refused_by s xs ys e (known s.variant) (marked s.length s.tail_len) refl refl

-- where what is left leads to what all leads to, so does a refusal in between: it is that of all, and the state stays as all leave it
module _ (s s₀ t : State) (xs rest ys : List ℕ) (e : Refusal) where
  pub fed_refused : updated s rest ≡ updated s₀ ys → (updated s xs).answer ≡ Err e → t ≡ (updated s xs).state → t ≡ (updated s₀ ys).state
  fed_refused i r q =
      let state = λ (u : Updated). u.state in
      q ∙ ap state (refused s xs xs e r) ∙ sym (ap state (refused s xs rest e r)) ∙ ap state i

  pub answer_refused : updated s rest ≡ updated s₀ ys → (updated s xs).answer ≡ Err e → (updated s₀ ys).answer ≡ Err e
  answer_refused i r =
      let answer = λ (u : Updated). u.answer in
      sym (ap answer i) ∙ ap answer (refused s xs rest e r)

-- one piece more
pub fed_more : (s s₀ t : State) (piece rest all ys : List ℕ) → updated s all ≡ updated s₀ ys → t ≡ (updated s piece).state
    → all ≡ piece ++ rest → updated t rest ≡ updated s₀ ys
fed_more s s₀ t piece rest all ys i q a = rw q (two_updates s piece rest ∙ ap (updated s) (sym a) ∙ i)

-- nothing is left
pub fed_all : (s s₀ : State) (rest ys : List ℕ) → updated s rest ≡ updated s₀ ys → rest ≡ [] → s ≡ (updated s₀ ys).state
fed_all s s₀ rest ys i n = updated_none s ∙ ap (λ (u : Updated). u.state) (ap (updated s) (sym n) ∙ i)

-- ---- a text read and written again
module _ (v : ℕ) (text lent : List ℕ) where
  -- 6
  pub rewritten_variant : (e : Refusal) → Err e ≡ size_of v → Written (Err e) lent (rewritten v text lent)
  unfolding rewritten
  rewritten_variant e q = let u = unsized v e q in rw u.0 (record { answered = ap (λ (x : Refusal). Err x) u.1; left = refl })

  -- 7
  pub rewritten_room : (s : ℕ) → Ok s ≡ size_of v → length lent < s → Written (Err ShortDestination) lent (rewritten v text lent)
  unfolding rewritten
  rewritten_room s q h =
      let z = sized v s q in
      rw (z.0, lt-ltb (length lent) (text_size v) (omega (arith, z.1))) (record { answered = refl; left = refl })

  module _ (s : ℕ) (q : Ok s ≡ size_of v) (h : s ≤ length lent) where
    fits : (known v ≡ true) × (ltb (length lent) (text_size v) ≡ false)
    fits = let z = sized v s q in (z.0, le-ltb (length lent) (text_size v) (omega (arith, z.1)))

    -- 8 and 9
    pub rewritten_read : (e : Refusal) → Err e ≡ read_of v text → Written (Err e) lent (rewritten v text lent)
    unfolding rewritten
    rewritten_read e r = rw (fits.0, fits.1, ← r) (record { answered = refl; left = refl })

    -- the text
    pub rewritten_done : (d : Digest) (r : Answer) (l : List ℕ) → Ok d ≡ read_of v text → Written r l (write_of d lent)
        → Written r l (rewritten v text lent)
    unfolding rewritten
    rewritten_done d r l p w = rw (fits.0, fits.1, ← p) w

-- ---- the ratio record
module _ (q1 q2 q3 : ℕ) (a : Ratios) (e : Ok a ≡ ratios_of q1 q2 q3) where
  in_order_by : (b : Bool) → ordered q1 q2 q3 ≡ b → ordered q1 q2 q3 ≡ true
  unfolding ratios_of
  in_order_by true p = p
  in_order_by false p = let h : ◌≡◌ {A = Result Ratios Refusal} (Ok a) (Err UnorderedQuartiles) = rw p at e in absurd cc

  o : ordered q1 q2 q3 ≡ true
  o = in_order_by (ordered q1 q2 q3) refl

  record_is : a ≡ record_of (quotient q1 q3) (quotient q2 q3)
  unfolding ratios_of
  record_is = let h : ◌≡◌ {A = Result Ratios Refusal} (Ok a) (Ok (record_of (quotient q1 q3) (quotient q2 q3))) = rw o at e in cc

  module _ (h : q3 < 2 ^ 32) where
    t1 : Truncates (quotient q1 q3)
    t1 = truncates q1 q3 (first_fit q1 q2 q3 o).some h (first_fit q1 q2 q3 o).most

    t2 : Truncates (quotient q2 q3)
    t2 = truncates q2 q3 (second_fit q1 q2 q3 o).some h (second_fit q1 q2 q3 o).most

    -- both quotients are numbers
    pub first_number : T (not (is_nan a.quotient1))
    first_number = rw record_is t1.no_nan

    pub second_number : T (not (is_nan a.quotient2))
    second_number = rw record_is t2.no_nan

    -- the four numbers
    pub ratios_done : (lent : List ℕ)
        → Written (Ok tt) (to_bits binary32 a.quotient1 ∷ to_bits binary32 a.quotient2 ∷ a.whole1 ∷ a.whole2 ∷ [])
        (ratios_written q1 q2 q3 lent)
    unfolding ratios_written
    ratios_done lent = rw (← e) (record { answered = refl; left = rw record_is (rw (t1.back, t2.back)) })
