-- The laws that the functions on inputs cite: the loop that stores bytes, and the one that feeds them.
-- Assumes nothing.
use Rattle.std.proofs.Common.{◌≡◌, refl, sym, ◌∙◌, ap, ℕ, zero, suc, ◌+◌, ◌≤◌, ◌<◌, List, [], ◌∷◌, ◌++◌, length, drop, set, get_or, arith, append_assoc, append-nil, length-append, drop-cons, add-one, length-set}
use Rattle.std.proofs.Math.Seq.{set_at, append_snoc, drop-length}
use Rattle.generate.specs.declared.State.{State}
use Rattle.generate.specs.Answer.{Updated, updated}
use Rattle.generate.proofs.Chunks.{updated_none, two_updates}
use Rattle.replay_inputs.specs.declared.Input.{Input}
use Rattle.replay_inputs.specs.declared.Making.{Making}
use Rattle.replay_inputs.specs.Input.{input_byte, input_bytes}

-- ---- bytes in a block

-- m bytes are m
length-input_bytes : (n : Input) (digits : List ℕ) (i m : ℕ) → length (input_bytes n digits i m) ≡ m
length-input_bytes n digits i zero = refl
length-input_bytes n digits i (suc m) =
    omega (arith, length-append (input_bytes n digits i m) (input_byte n digits (i + m) ∷ []), length-input_bytes n digits i m)

-- what the loop keeps: k bytes are made and stored, and the rest stands as it was
pub record Filled (start : Making) (room digits block : List ℕ) (now : Making) (k : ℕ) : Type 0 where
  pub input : now.input ≡ start.input
  pub at : now.at ≡ start.at + k
  pub long : length block ≡ length room
  pub holds : block ≡ input_bytes start.input digits start.at k ++ drop k room

-- at the start nothing is stored
pub filled_none : (start : Making) (room digits : List ℕ) → Filled start room digits room start 0
filled_none start room digits = record { input = refl; at = omega arith; long = refl; holds = refl }

-- a turn stores the next byte
pub filled_more : (start : Making) (room digits block : List ℕ) (now next : Making) (k b : ℕ) → Filled start room digits block now k
    → k < length room → b ≡ input_byte now.input digits now.at → next.input ≡ now.input → next.at ≡ now.at + 1
    → Filled start room digits (set block k b) next (k + 1)
filled_more start room digits block now next k b p h e f g =
    let n : Input = start.input in
    let i : ℕ = start.at in
    let a : b ≡ input_byte n digits (i + k) = rw (p.input, p.at) at e in
    let stored : set (input_bytes n digits i k ++ (get_or room k 0 ∷ drop (suc k) room)) k b ≡ input_bytes n digits i (suc k) ++ drop (suc k) room =
    set_at (input_bytes n digits i k) (get_or room k 0) (drop (suc k) room) b k (length-input_bytes n digits i k)
    ∙ rw a (sym (append_snoc (input_bytes n digits i k) (input_byte n digits (i + k)) (drop (suc k) room))) in
    record {
      input = f ∙ p.input;
      at = omega (arith, g, p.at);
      long = length-set block k b ∙ p.long;
      holds = rw (add-one k, p.holds, drop-cons room k 0 h) stored;
    }

-- at the end all is stored
pub filled_all : (start : Making) (room digits block : List ℕ) (now : Making) (k : ℕ) → Filled start room digits block now k
    → length room ≤ k → block ≡ input_bytes start.input digits start.at (length room)
filled_all start room digits block now k p h =
    let e : k ≡ length room = omega (
      arith,
      p.long,
      ap length p.holds,
      length-append (input_bytes start.input digits start.at k) (drop k room),
      length-input_bytes start.input digits start.at k,
    ) in
    rw (e, drop-length room, append-nil (input_bytes start.input digits start.at (length room))) at p.holds

-- ---- feeding

-- bytes from i on, and then more, are more bytes from i on
bytes_joined : (n : Input) (digits : List ℕ) (i m : ℕ)
    → input_bytes n digits 0 i ++ input_bytes n digits i m ≡ input_bytes n digits 0 (i + m)
bytes_joined n digits i zero =
    let z : i + 0 ≡ i = omega arith in
    rw z (append-nil (input_bytes n digits 0 i))
bytes_joined n digits i (suc m) =
    let s : i + suc m ≡ suc (i + m) = omega arith in
    let z : 0 + (i + m) ≡ i + m = omega arith in
    rw (s, z, ← bytes_joined n digits i m)
    (sym (append_assoc (input_bytes n digits 0 i) (input_bytes n digits i m) (input_byte n digits (i + m) ∷ [])))

-- what the loop keeps: the state after the bytes that are made
pub record Taken (s₀ : State) (n : Input) (digits : List ℕ) (s : State) (now : Making) : Type 0 where
  pub input : now.input ≡ n
  pub is : s ≡ (updated s₀ (input_bytes n digits 0 now.at)).state

-- at the start no byte was fed
pub taken_none : (s : State) (n : Input) (digits : List ℕ) (now : Making) → now.input ≡ n → now.at ≡ 0 → Taken s n digits s now
taken_none s n digits now e z = record { input = e; is = rw z (updated_none s) }

-- a turn feeds a piece
pub taken_more : (s₀ s t : State) (n : Input) (digits bytes : List ℕ) (now next : Making) (m : ℕ) → Taken s₀ n digits s now
    → bytes ≡ input_bytes now.input digits now.at m → next.input ≡ now.input → next.at ≡ now.at + m
    → t ≡ (updated s bytes).state → Taken s₀ n digits t next
taken_more s₀ s t n digits bytes now next m p e i a u =
    let is : t ≡ (updated (updated s₀ (input_bytes n digits 0 now.at)).state (input_bytes n digits now.at m)).state =
    rw (e, p.is, p.input) at u in
    record {
      input = i ∙ p.input;
      is = rw a (is ∙ ap (λ (v : Updated). v.state) (two_updates s₀ (input_bytes n digits 0 now.at) (input_bytes n digits now.at m)
          ∙ ap (updated s₀) (bytes_joined n digits now.at m)));
    }
