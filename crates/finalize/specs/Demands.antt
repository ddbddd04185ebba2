-- What is promised of every digest that finalizing gives, as a statement.
-- Assumes nothing.
use Rattle.std.specs.Prelude.{ℕ, ◌<◌, ◌≡◌, length, Ok}
use Rattle.hash.specs.declared.Digest.{Digest}
use Rattle.hash.specs.Digest.{Made}
use Rattle.generate.specs.declared.State.{State}
use Rattle.finalize.specs.Final.{finalized}

-- where a state gets a digest, that is a record that the port makes, of the state's variant. Every state of the program has 256
-- counters and a checksum of one byte, reached or not
abbrev pub StatesGetMade : Type 0
StatesGetMade = (s : State) (n : ℕ) → length s.counters ≡ 256 → s.checksum < 256
    → (d : Digest) → finalized s n ≡ Ok d → Made d × (d.variant ≡ s.variant)
