-- Reading to the end.
-- Assumes nothing.
use Rattle.std.proofs.Common.{◌≡◌, refl, sym, ◌∙◌, ap, ℕ, suc, ◌+◌, ◌%◌, ◌<◌, ◌≤◌, ◌^◌, List, [], ◌++◌, take, pos, negsuc, Result, Ok, Err, true, inl, inr, arith}
use Rattle.std.specs.Prelude.{IsErrAnd, IsOk}
use Rattle.params.specs.declared.Refusal.{Refusal}
use Rattle.params.specs.declared.Variant.TheVariants.{Normal, Long}
use Rattle.params.specs.Variants.{known}
use Rattle.params.proofs.Variants.{known_buckets}
use Rattle.reading.specs.Reading.{Read, Arrived, none, more, answered}
use Rattle.reading.proofs.Bytes.{arrived_enough}
use Rattle.generate.specs.declared.State.{State}
use Rattle.generate.specs.Feed.{feed, fresh}
use Rattle.generate.specs.Answer.{Updated, marked, new_answer, updated}
use Rattle.generate.proofs.Chunks.{updated_none, two_updates}
use Rattle.digest.specs.Turns.{Turned, Ended}

-- a read that failed leaves the state
pub turned_failed : {E : Type 0} (k : ℕ) (s : State) (block : List ℕ) (P : E → Type 0) (r : Result ℕ E) → IsErrAnd r P
    → Read (pos 0) k block (negsuc 0) → Turned k s s (answered r)
turned_failed k s block P (Ok n) a p = absurd a
turned_failed k s block P (Err e) a p = record { block = block; read = p; is = updated_none s }

-- from read to read: the bytes of all reads before number k have been taken in, one at each of i turns
pub record Held (s : State) (k i : ℕ) : Type 0 where
  pub bytes : List ℕ
  pub arrived : Arrived (pos 0) k bytes
  pub is : s ≡ (updated (fresh 128) bytes).state
  pub turns : k ≡ i

-- a known variant has a fresh state
fresh_given : (v : ℕ) → known v ≡ true → new_answer v ≡ Ok (fresh v)
unfolding new_answer
fresh_given v k = rw k refl

-- and so it is not refused
pub fresh_ok : (v : ℕ) (r : Result State Refusal) → r ≡ new_answer v → known v ≡ true → IsOk r
fresh_ok v r e k = rw (e, fresh_given v k) refl

pub known_normal : known 128 ≡ true
known_normal = known_buckets Normal

pub known_long : known 256 ≡ true
known_long = known_buckets Long

-- before the first read
pub held_none : (r : Result State Refusal) (s : State) → r ≡ new_answer 128 → r ≡ Ok s → Held s 0 0
held_none r s e f =
    let is : s ≡ fresh 128 = grind (arith, e, f, fresh_given 128 known_normal) in
    rw is record { bytes = []; arrived = none; is = updated_none (fresh 128); turns = refl }

-- a count that has not reached 2^32 does not roll over
one_more : (k l : ℕ) → k < 4_294_967_296 → l ≡ (k + 1) % 2 ^ 64 → l ≡ suc k
one_more k l h e = omega arith

-- after a read that gave bytes
pub held_more : (s t : State) (k l i n : ℕ) → Held s k i → i < 4_294_967_296 → Turned k s t (pos n) → (n ≡ 0 → ⊥)
    → l ≡ (k + 1) % 2 ^ 64 → Held t l (i + 1)
held_more s t k l i n p h u some e =
    let bytes : List ℕ = take n u.block in
    rw (one_more k l (omega (arith, h, p.turns)) e) record {
      bytes = p.bytes ++ bytes;
      arrived = more k n p.bytes u.block p.arrived u.read (omega (arith, some));
      is = u.is ∙ ap (λ (v : State). (updated v bytes).state) p.is ∙ ap (λ (v : Updated). v.state) (two_updates (fresh 128) p.bytes bytes);
      turns = omega (arith, p.turns);
    }

fed_of : (s : State) (bytes : List ℕ) → s ≡ (updated (fresh 128) bytes).state → s ≡ feed bytes (fresh 128)
unfolding updated fresh known marked
fed_of s bytes e = e

-- after a read that failed
pub held_failed : {E : Type 0} (s t : State) (k i : ℕ) (P : E → Type 0) (r : Result State E) → IsErrAnd r P → Held s k i
    → Turned k s t (negsuc 0) → Ended r
held_failed s t k i P (Ok n) a p u = absurd a
held_failed s t k i P (Err e) a p u =
    record {
      reads = k;
      bytes = p.bytes;
      arrived = p.arrived;
      is = tt;
      last = tt;
      failed = record { block = u.block; read = u.read };
    }

-- after one that met the end
pub held_end : {E : Type 0} (s t : State) (k i n : ℕ) → Held s k i → Turned k s t (pos n) → n ≡ 0 → Ended {E = E} (Ok t)
held_end s t k i n p turned z =
    let u : Turned k s t (pos 0) = rw z at turned in
    record {
      reads = k;
      bytes = p.bytes;
      arrived = p.arrived;
      is = u.is ∙ sym (updated_none s) ∙ fed_of s p.bytes p.is;
      last = inl record { block = u.block; read = u.read };
      failed = tt;
    }

-- no more is read
pub held_enough : {E : Type 0} (s : State) (k i : ℕ) → Held s k i → 4_294_967_296 ≤ i → Ended {E = E} (Ok s)
held_enough s k i p h =
    record {
      reads = k;
      bytes = p.bytes;
      arrived = p.arrived;
      is = fed_of s p.bytes p.is;
      last = inr (omega (arith, h, p.turns, arrived_enough (pos 0) k p.bytes p.arrived));
      failed = tt;
    }
