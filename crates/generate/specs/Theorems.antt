-- What holds of every state that bytes reach, of any cutting, and of bytes past the first 2^32, as statements (docs/RULES.md, section 3).
-- Assumes nothing.
use Rattle.std.specs.Prelude.{false, List, [], ◌∷◌, ◌≡◌, ℕ, ◌*◌, ◌%◌, ◌^◌, ◌≤◌, ◌<◌, min, length, get_or, take}
use Rattle.params.specs.Words.{sum}
use Rattle.generate.specs.declared.State.{State}
use Rattle.generate.specs.Feed.{fresh, feed}
use Rattle.generate.specs.Answer.{marked, updated, total}
use Rattle.generate.specs.Chunks.{joined, feeds, updates}

-- ---- the states that bytes reach from a fresh one

-- the counters sum, modulo 2^32, to six times the length field
abbrev pub Six : Type 0
Six = (v : ℕ) (bs : List ℕ) → sum (feed bs (fresh v)).counters % 2 ^ 32 ≡ (6 * (feed bs (fresh v)).length) % 2 ^ 32

-- exactly, where that is below 2^32
abbrev pub SixExact : Type 0
SixExact = (v : ℕ) (bs : List ℕ) → 6 * (feed bs (fresh v)).length < 2 ^ 32
    → sum (feed bs (fresh v)).counters ≡ 6 * (feed bs (fresh v)).length

-- the processed length is the number of bytes, up to 2^32
abbrev pub Taken : Type 0
Taken = (v : ℕ) (bs : List ℕ) → total (feed bs (fresh v)) ≡ min (2 ^ 32) (length bs)

-- no reached state has one of the three marks
abbrev pub ReachedUnmarked : Type 0
ReachedUnmarked = (v : ℕ) (bs : List ℕ) → marked (feed bs (fresh v)).length (feed bs (fresh v)).tail_len ≡ false

-- in the short variant the counters 49 to 255 stay 0
abbrev pub ShortUnused : Type 0
ShortUnused = (bs : List ℕ) (i : ℕ) → 49 ≤ i → get_or (feed bs (fresh 48)).counters i 0 ≡ 0

-- ---- bytes past the first 2^32

-- they change nothing, the tail included
abbrev pub FirstBytesOnly : Type 0
FirstBytesOnly = (v : ℕ) (bs : List ℕ) → feed bs (fresh v) ≡ feed (take (2 ^ 32) bs) (fresh v)

-- a state without a mark whose processed length is 2^32 is changed by no bytes
abbrev pub FullStays : Type 0
FullStays = (bs : List ℕ) (s : State) → marked s.length s.tail_len ≡ false → total s ≡ 2 ^ 32 → feed bs s ≡ s

-- ---- any cutting of the same bytes, empty chunks included, from any state

-- chunk upon chunk leads to the state that all bytes at once lead to
abbrev pub FeedsJoined : Type 0
FeedsJoined = (xss : List (List ℕ)) (s : State) → feeds xss s ≡ feed (joined xss) s

-- an update with no byte leaves the state, also where it is refused
abbrev pub UpdatedNone : Type 0
UpdatedNone = (s : State) → s ≡ (updated s []).state

-- several updates answer what one with all their bytes answers, also where they are refused
abbrev pub UpdatesJoined : Type 0
UpdatesJoined = (s : State) (xs : List ℕ) (xss : List (List ℕ)) → updates s xs xss ≡ updated s (joined (xs ∷ xss))

-- and so two cuttings of the same bytes are answered alike
abbrev pub CuttingsAlike : Type 0
CuttingsAlike = (s : State) (xs ys : List ℕ) (xss yss : List (List ℕ)) → joined (xs ∷ xss) ≡ joined (ys ∷ yss)
    → updates s xs xss ≡ updates s ys yss
