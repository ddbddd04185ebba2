-- The contracts of `saltcurtain` leave one answer, and one content of the memory that is lent to be written, each.
-- Assumes nothing.
use mathlib.Core.List.{List}
use Prim.Native.Nat.{ℕ}
use Rattle.params.proofs.One.{One, OneAnswer, one_answer}
use Rattle.text.proofs.Unique.{Answer, one_written}
use Rattle.saltcurtain.specs.contracts.saltcurtain_digest as digest
use Rattle.saltcurtain.specs.contracts.saltcurtain_digest_pieces as digest_pieces
use Rattle.saltcurtain.specs.contracts.saltcurtain_rewrite as rewrite
use Rattle.saltcurtain.specs.contracts.saltcurtain_ratios as ratios
use Rattle.saltcurtain.specs.contracts.saltcurtain_length_code as length_code
use Rattle.saltcurtain.specs.contracts.saltcurtain_distance as distance
use Rattle.saltcurtain.specs.contracts.saltcurtain_read as read
use Rattle.saltcurtain.specs.contracts.saltcurtain_distance_read as distance_read

one_digest : One digest.ended (λ M 𝓤. digest.clauses) (Answer × List ℕ) (λ κs z e. (z, e.1.1.1.0.now))
one_digest M 𝓤 𝓛 at_mem run κs a g h z y e f = one_written 𝓤 _ z y e.1.1.1.0.now f.1.1.1.0.now

one_digest_pieces : One digest_pieces.ended (λ M 𝓤. digest_pieces.clauses) (Answer × List ℕ) (λ κs z e. (z, e.1.1.1.1.0.now))
one_digest_pieces M 𝓤 𝓛 at_mem run κs a g h z y e f = one_written 𝓤 _ z y e.1.1.1.1.0.now f.1.1.1.1.0.now

one_rewrite : One rewrite.ended (λ M 𝓤. rewrite.clauses) (Answer × List ℕ) (λ κs z e. (z, e.1.1.0.now))
one_rewrite M 𝓤 𝓛 at_mem run κs a g h z y e f = one_written 𝓤 _ z y e.1.1.0.now f.1.1.0.now

one_ratios : One ratios.ended (λ M 𝓤. ratios.clauses) (Answer × List ℕ) (λ κs z e. (z, e.1.1.1.0.now))
one_ratios M 𝓤 𝓛 at_mem run κs a g h z y e f = one_written 𝓤 _ z y e.1.1.1.0.now f.1.1.1.0.now

one_length_code : One length_code.ended (λ M 𝓤. length_code.clauses) (Answer × List ℕ) (λ κs z e. (z, e.1.0.now))
one_length_code M 𝓤 𝓛 at_mem run κs a g h z y e f = one_written 𝓤 _ z y e.1.0.now f.1.0.now

one_distance : OneAnswer distance.ended (λ M 𝓤. distance.clauses)
one_distance M 𝓤 𝓛 at_mem run κs a g h z y e f = one_answer 𝓤 _ z y

one_read : OneAnswer read.ended (λ M 𝓤. read.clauses)
one_read M 𝓤 𝓛 at_mem run κs a g h z y e f = one_answer 𝓤 _ z y

one_distance_read : OneAnswer distance_read.ended (λ M 𝓤. distance_read.clauses)
one_distance_read M 𝓤 𝓛 at_mem run κs a g h z y e f = one_answer 𝓤 _ z y
