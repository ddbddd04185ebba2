-- The contracts of `pearson` leave one answer each.
-- Assumes nothing.
use Rattle.std.proofs.Common.{◌≡◌, ℕ, List, sym, ap, ◌∙◌}
use seplogic.Ra.Ura.{Ura}
use base.Logic.{ent, sep}
use contract.Monad.{fact}
use Rattle.params.proofs.One.{One, OneAnswer, two_facts, one_answer}
use Rattle.pearson.specs.declared.Tables.{Tables}
use Rattle.pearson.specs.Mapping.{lasts}
use Rattle.pearson.specs.contracts.subst_table as subst_table
use Rattle.pearson.specs.contracts.last_table as last_table
use Rattle.pearson.specs.contracts.Tables.new as new
use Rattle.pearson.specs.contracts.Tables.update as update
use Rattle.pearson.specs.contracts.Tables.last as last
use Rattle.pearson.specs.contracts.Tables.b_mapping as b_mapping
use Rattle.pearson.specs.contracts.mapping as mapping
use Rattle.pearson.specs.contracts.wide_table as wide_table
use Rattle.pearson.specs.contracts.first_table as first_table

one_subst_table : OneAnswer subst_table.ended (λ M 𝓤. subst_table.clauses)
one_subst_table M 𝓤 𝓛 at_mem run κs a g h z y e f = one_answer 𝓤 _ z y

one_last_table : OneAnswer last_table.ended (λ M 𝓤. last_table.clauses)
one_last_table M 𝓤 𝓛 at_mem run κs a g h z y e f = one_answer 𝓤 _ z y

-- the fields that a value of `Tables` has in memory
fields : Tables → ℕ × (List ℕ × List ℕ)
fields t = (t.variant, (t.subst_table, t.last_table))

-- its number fixes them all
one_tables : {M : Type 1} (𝓤 : Ura M) (v : ℕ) (t u : Tables)
    → ent 𝓤 (sep 𝓤 (fact 𝓤 (t.variant ≡ v)) (fact 𝓤 (u.variant ≡ v))) (fact 𝓤 (fields t ≡ fields u))
unfolding fields
one_tables 𝓤 v t u =
    two_facts 𝓤 (t.variant ≡ v) (u.variant ≡ v) (fields t ≡ fields u)
    (λ p q i. (
      (p ∙ sym q) i,
      ((t.subst_is ∙ sym u.subst_is) i, (t.last_is ∙ ap lasts (p ∙ sym q) ∙ sym u.last_is) i),
    ))

one_new : One new.ended (λ M 𝓤. new.clauses) (ℕ × (List ℕ × List ℕ)) (λ κs z e. fields z)
one_new M 𝓤 𝓛 at_mem run κs a g h z y e f = one_tables 𝓤 _ z y

one_update : OneAnswer update.ended (λ M 𝓤. update.clauses)
one_update M 𝓤 𝓛 at_mem run κs a g h z y e f = one_answer 𝓤 _ z y

one_last : OneAnswer last.ended (λ M 𝓤. last.clauses)
one_last M 𝓤 𝓛 at_mem run κs a g h z y e f = one_answer 𝓤 _ z y

one_b_mapping : OneAnswer b_mapping.ended (λ M 𝓤. b_mapping.clauses)
one_b_mapping M 𝓤 𝓛 at_mem run κs a g h z y e f = one_answer 𝓤 _ z y

one_mapping : OneAnswer mapping.ended (λ M 𝓤. mapping.clauses)
one_mapping M 𝓤 𝓛 at_mem run κs a g h z y e f = one_answer 𝓤 _ z y

one_wide_table : OneAnswer wide_table.ended (λ M 𝓤. wide_table.clauses)
one_wide_table M 𝓤 𝓛 at_mem run κs a g h z y e f = one_answer 𝓤 _ z y

one_first_table : OneAnswer first_table.ended (λ M 𝓤. first_table.clauses)
one_first_table M 𝓤 𝓛 at_mem run κs a g h z y e f = one_answer 𝓤 _ z y
