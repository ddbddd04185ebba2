-- Both round trips, as statements (docs/RULES.md, section 5): what is written is read, and what is read is written.
-- Assumes nothing.
use Rattle.std.specs.Prelude.{cond, List, ◌++◌, ◌≡◌, ℕ, ◌≤◌, eqb, length, take, drop, Ok}
use Rattle.hash.specs.declared.Digest.{Digest}
use Rattle.hash.specs.Digest.{Made}
use Rattle.text.specs.Text.{text_of, text_size, write_of}
use Rattle.parse.specs.Reading.{read_of}

-- ---- from a digest that the port makes, by its text, back

-- reading its text gives the digest
abbrev pub TextRead : Type 0
TextRead = (d : Digest) → Made d → read_of d.variant (text_of d) ≡ Ok d

-- its text has 32, 72 or 136 characters
abbrev pub TextSizes : Type 0
TextSizes = (d : Digest) → Made d → length (text_of d) ≡ cond (eqb d.variant 48) 32 (cond (eqb d.variant 128) 72 136)

-- reading the characters that were written to a destination gives the digest
abbrev pub ReadWritten : Type 0
ReadWritten = (d : Digest) (destination : List ℕ) → Made d → (write_of d destination).answer ≡ Ok tt
    → read_of d.variant (take (text_size d.variant) (write_of d destination).destination) ≡ Ok d

-- ---- from a text that is read, by its digest, back

-- writing what was read gives the text
abbrev pub TextAgain : Type 0
TextAgain = (v : ℕ) (s : List ℕ) (d : Digest) → read_of v s ≡ Ok d → text_of d ≡ s

-- it leaves the text at the front of a destination that has room, and later bytes as they were
abbrev pub WriteAgain : Type 0
WriteAgain = (v : ℕ) (s destination : List ℕ) (d : Digest) → read_of v s ≡ Ok d → length s ≤ length destination
    → write_of d destination ≡ record { answer = Ok tt; destination = s ++ drop (length s) destination }

-- what was read is a digest that the port makes
abbrev pub ReadMade : Type 0
ReadMade = (v : ℕ) (s : List ℕ) (d : Digest) → read_of v s ≡ Ok d → Made d

-- of the variant that was asked for
abbrev pub ReadVariant : Type 0
ReadVariant = (v : ℕ) (s : List ℕ) (d : Digest) → read_of v s ≡ Ok d → d.variant ≡ v

-- two texts that are read to one digest are one text
abbrev pub OneText : Type 0
OneText = (v w : ℕ) (s t : List ℕ) (d : Digest) → read_of v s ≡ Ok d → read_of w t ≡ Ok d → s ≡ t
