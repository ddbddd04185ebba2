-- What one byte does to a state, and a list of bytes (docs/RULES.md, section 3).
-- Assumes nothing.
use Rattle.std.specs.Prelude.{cond, List, [], ◌∷◌, ℕ, ◌+◌, ltb, get_or, set, replicate}
use Rattle.counting.specs.Count.{checked, counted}
use Rattle.generate.specs.declared.State.{State}

-- the fresh state of a variant: all but the variant is 0
unfoldable pub fresh : ℕ → State
fresh v =
    record {
      counters = replicate 256 0;
      variant = v;
      length = 0;
      checksum = 0;
      tail = replicate 4 0;
      tail_len = 0;
    }

-- where the length field stops: 2^32, less the four bytes of the tail
abbrev pub stop : ℕ
stop = 4_294_967_292

-- one of the first four bytes fills the tail
unfoldable pub filled : State → ℕ → State
filled s b =
    record {
      counters = s.counters;
      variant = s.variant;
      length = s.length;
      checksum = s.checksum;
      tail = set s.tail s.tail_len b;
      tail_len = s.tail_len + 1;
    }

-- a later byte: the checksum, then the six counters, then the length field; and the tail moves on
unfoldable pub slid : State → ℕ → State
slid s b4 =
    let b0 : ℕ = get_or s.tail 0 0 in
    let b1 : ℕ = get_or s.tail 1 0 in
    let b2 : ℕ = get_or s.tail 2 0 in
    let b3 : ℕ = get_or s.tail 3 0 in
    record {
      counters = counted s.variant s.counters b4 b3 b2 b1 b0;
      variant = s.variant;
      length = s.length + 1;
      checksum = checked s.variant s.checksum b4 b3;
      tail = b1 ∷ b2 ∷ b3 ∷ b4 ∷ [];
      tail_len = s.tail_len;
    }

-- one byte: it fills the tail, or is counted, or comes past the stop and changes nothing
unfoldable pub step : State → ℕ → State
step s b = cond (ltb s.tail_len 4) (filled s b) (cond (ltb s.length stop) (slid s b) s)

-- a list of bytes, one after the other
unfoldable pub feed : List ℕ → State → State
feed [] s = s
feed (b ∷ bs) s = feed bs (step s b)
