-- The digest record, and when two are the same (docs/RULES.md, section 5).
-- Assumes nothing.
use Rattle.std.specs.Prelude.{Bool, true, cond, not, ◌&&◌, List, ◌≡◌, ℕ, zero, suc, ◌≤◌, ◌<◌, eqb, length, get_or, replicate, Result, Ok, Err}
use Rattle.params.specs.Variants.{known}
use Rattle.params.specs.declared.Refusal.{Refusal}
use Rattle.params.specs.declared.Refusal.TheVariants.{UnknownVariant}
use Rattle.body.specs.Body.{bytes_of}
use Rattle.hash.specs.declared.Digest.{Digest}

-- the record of zeros
abbrev pub zero_digest : Digest
zero_digest = record { body = replicate 64 0; variant = 0; checksum = 0; length_code = 0; ratios = 0 }

-- a record that the port makes: a known variant, bytes, and 0 in each body byte after the 12, 32 or 64 that the variant uses
pub record Made (d : Digest) : Type 0 where
  pub variant : known d.variant ≡ true
  pub checksum : d.checksum < 256
  pub length_code : d.length_code < 256
  pub ratios : d.ratios < 256
  pub long : length d.body ≡ 64
  pub bytes : (i : ℕ) → get_or d.body i 0 < 256
  pub rest : (i : ℕ) → bytes_of d.variant ≤ i → get_or d.body i 0 ≡ 0

-- the first n entries of two lists are equal
abbrev pub first_equal : ℕ → List ℕ → List ℕ → Bool
first_equal zero xs ys = true
first_equal (suc n) xs ys = first_equal n xs ys && eqb (get_or xs n 0) (get_or ys n 0)

-- two digests are the same when they are of one variant and their used fields are equal
unfoldable pub same_fields : Digest → Digest → Bool
same_fields a b =
    eqb a.variant b.variant
    && eqb a.checksum b.checksum
    && eqb a.length_code b.length_code
    && eqb a.ratios b.ratios
    && first_equal (bytes_of a.variant) a.body b.body

-- the answer: 6 where one of the two is of no known variant
unfoldable pub same_of : Digest → Digest → Result Bool Refusal
same_of a b = cond (not (known a.variant && known b.variant)) (Err UnknownVariant) (Ok (same_fields a b))
