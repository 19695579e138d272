use Rattle.std.proofs.Common.{◌∙◌, ℕ, List, ap, codes, subst, sym}
use Rattle.tree_base.specs.declared.Tree.{Tree}
use Rattle.tree_base.specs.declared.Step.TheVariants.{Key}
use Rattle.merge_tables.specs.Answers.{UpGives, under}
use Rattle.merge_tables.specs.Parts.{field}
use Rattle.merge_rules.specs.UnderExtends.{Asked, services_allowed}
use Rattle.merge_rules.proofs.AskedSteps.{no_services}
use Rattle.merge_rules.proofs.under_extends.marks_allowed.Goals as goal

abbrev services_of : List (List ℕ × Tree) → Asked
services_of entries = under (Key (codes "services")) (services_allowed (field entries (codes "services")))

pub returns-in-None : goal.returns-in-None
returns-in-None c = ap services_of c.in-None.ensures ∙ ap (under (Key (codes "services"))) no_services

pub returns-in-Some : goal.returns-in-Some
returns-in-Some c =
    subst (λ (entries : List (List ℕ × Tree)). UpGives c.services_in.result (services_of entries)) (sym c.in-Some.ensures) c.services_in.ensures
