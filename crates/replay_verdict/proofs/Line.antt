-- The laws that the functions on a whole line cite.
-- Assumes nothing.
use Rattle.std.proofs.Common.{◌≡◌, refl, sym, ap, ◌∙◌, ℕ, ◌≤◌, Bool, true, false, List, ◌++◌, length, take, drop, Ok, Err, Result, arith, replicate, cond, le-ltb}
use Rattle.std.proofs.lemmas.List.{length-replicate}
use Rattle.std.proofs.lemmas.Grind.{common_steps}
use Rattle.std.proofs.Math.Seq.{take_at}
use Rattle.params.specs.declared.Refusal.{Refusal}
use Rattle.params.specs.Variants.{known}
use Rattle.params.proofs.Variants.{by_variant}
use Rattle.hash.specs.declared.Digest.{Digest}
use Rattle.text.specs.Text.{text_of, text_size, size_of, write_of, Written}
use Rattle.text.proofs.Writing.{length_text}
use Rattle.generate.specs.declared.State.{State}
use Rattle.generate.specs.Feed.{feed, fresh}
use Rattle.generate.specs.Answer.{marked, new_answer, updated}
use Rattle.finalize.specs.Final.{finalized, digest_of}
use Rattle.replay_inputs.specs.Input.{input_bytes}
use Rattle.replay_question.specs.declared.Question.{Question}
use Rattle.replay_question.specs.Question.{seed_word, question_of}
use Rattle.replay_question.proofs.Laws.{good_known}
use Rattle.replay_verdict.specs.Line.{is_answer, asked_for, verdict_on, verdict_of}
use Rattle.replay_verdict.specs.declared.Verdict.TheVariants.{Same, Another, Malformed}

-- a text has at most 136 characters
most_size : (v : ℕ) → known v ≡ true → text_size v ≤ 136
most_size = by_variant (λ v. text_size v ≤ 136) (omega arith) (omega arith) (omega arith)

-- a variant that has no size of a text is none of the three
pub size_none : (v : ℕ) (e : Refusal) → size_of v ≡ Err e → known v ≡ false
unfolding size_of
size_none v e h = grind (arith, common_steps)

-- one that has is
pub size_known : (v n : ℕ) → size_of v ≡ Ok n → (known v ≡ true) × (n ≡ text_size v)
unfolding size_of
size_known v n h = grind (arith, common_steps)

module _ (d : Digest) (n : ℕ) (text : List ℕ) (r : Result (Unit {0}) Refusal) (long : length d.body ≡ 64) (e : size_of d.variant ≡ Ok n)
    (w : Written r text (write_of d (replicate 136 0))) where
  text_long : length (text_of d) ≡ n
  text_long = length_text d long ∙ sym (size_known d.variant n e).1

  -- the front of what was written is the text
  pub front_text : take n text ≡ text_of d
  unfolding write_of
  front_text =
      let k : known d.variant ≡ true = (size_known d.variant n e).0 in
      let room : length (text_of d) ≤ length {A = ℕ} (replicate 136 0) =
      omega (arith, text_long, (size_known d.variant n e).1, most_size d.variant k, length-replicate {A = ℕ} 136 0) in
      let all : text ≡ text_of d ++ drop (length (text_of d)) (replicate 136 0) =
      rw (k, le-ltb (length {A = ℕ} (replicate 136 0)) (length (text_of d)) room) at w.left in
      rw all (take_at (text_of d) (drop (length (text_of d)) (replicate 136 0)) n text_long)

  -- and has its size
  pub front_size : n ≡ length (take n text)
  front_size = sym (ap length front_text ∙ text_long)

-- ---- the verdict

-- a fresh state is refused for no question
pub never_refused : (line : List ℕ) (q : Question) (e : Refusal) → question_of line ≡ Ok q → new_answer q.variant ≡ Err e → ⊥
unfolding new_answer
never_refused line q e a n = grind (arith, common_steps, good_known line q a)

-- the fresh state that is given
given_fresh : (v : ℕ) (s : State) → known v ≡ true → new_answer v ≡ Ok s → s ≡ fresh v
unfolding new_answer
given_fresh v s k n = grind (arith, common_steps)

-- it takes in all bytes
fed_fresh : (v : ℕ) (bytes : List ℕ) → known v ≡ true → (updated (fresh v) bytes).state ≡ feed bytes (fresh v)
unfolding updated marked fresh
fed_fresh v bytes k = rw k refl

-- a line that breaks a rule is malformed
pub verdict_malformed : (line : List ℕ) (q : Question) → question_of line ≡ Err q → Malformed ≡ verdict_of line
unfolding verdict_of verdict_on
verdict_malformed line q n = rw n refl

module _ (line : List ℕ) (q : Question) (s t : State) (b : Bool) (a : question_of line ≡ Ok q) (n : new_answer q.variant ≡ Ok s)
    (f : t ≡ (updated s (input_bytes q.input (seed_word line) 0 q.input.length)).state)
    (g : b ≡ is_answer line (finalized t q.options)) where
  -- the state is that of all bytes
  fed : t ≡ feed (input_bytes q.input (seed_word line) 0 q.input.length) (fresh q.variant)
  fed =
      let k : known q.variant ≡ true = good_known line q a in
      rw (given_fresh q.variant s k n) at f ∙ fed_fresh q.variant (input_bytes q.input (seed_word line) 0 q.input.length) k

  judged_line : verdict_of line ≡ cond b Same Another
  unfolding verdict_of verdict_on asked_for digest_of
  judged_line = rw (a, ← fed, ← g) refl

  -- the same answer
  pub verdict_same : b ≡ true → Same ≡ verdict_of line
  verdict_same h = sym (judged_line ∙ rw h refl)

  -- another answer
  pub verdict_differs : b ≡ false → Another ≡ verdict_of line
  verdict_differs h = sym (judged_line ∙ rw h refl)
