-- A digest whose body comes of as many counters as its variant has is one that the port makes.
-- Assumes nothing.
use mathlib.Core.Path.{◌≡◌}
use mathlib.Core.Bool.{true}
use mathlib.Core.List.{List}
use Prim.Native.Nat.{ℕ, ◌≤◌, ◌<◌}
use lib.ListN.{length}
use Rattle.params.specs.Variants.{known}
use Rattle.quartile.specs.declared.Quartiles.{Quartiles}
use Rattle.body.specs.Body.{bytes_of, body_of}
use Rattle.body.proofs.Shape.{length_body, body_small, body_rest}
use Rattle.hash.specs.Digest.{Made}

-- the three other fields need only be bytes
pub made_of_body : (cuts : Quartiles) (used : List ℕ) (variant checksum code ratios : ℕ) → known variant ≡ true → length used ≡ variant
    → checksum < 256 → code < 256 → ratios < 256
    → Made (record { body = body_of cuts used; variant = variant; checksum = checksum; length_code = code; ratios = ratios })
made_of_body cuts used variant checksum code ratios k l p q r =
    record {
      variant = k;
      checksum = p;
      length_code = q;
      ratios = r;
      long = length_body cuts used;
      bytes = body_small cuts used;
      rest = λ (i : ℕ) (h : bytes_of variant ≤ i). body_rest cuts used i (rw l h);
    }
