use Rattle.std.proofs.Common.{◌∙◌, ℕ, List, ap, subst, sym}
use Rattle.attribute_paths.proofs.Walks.{entries_are}
use Rattle.tree_base.specs.declared.Tree.{Tree}
use Rattle.merge_tables.specs.Answers.{UpGives}
use Rattle.merge_rules.specs.UnderExtends.{Asked, each_allowed, entries_asked, service_allowed}
use Rattle.merge_rules.proofs.under_extends.services_allowed.Goals as goal

pub returns-in-None : goal.returns-in-None
returns-in-None c = ap each_allowed c.in-None.ensures

pub returns-in-Some : goal.returns-in-Some
returns-in-Some c =
    let es = c.in-Some.entries.now in
    subst (λ (entries : List (List ℕ × Tree)). UpGives c.each_allowed.result (each_allowed entries)) (sym c.in-Some.ensures)
    (subst (λ (all : List (List ℕ × Asked)). UpGives c.each_allowed.result (entries_asked all))
    (entries_are service_allowed es c.keys.result.now c.values.result.now c.keys.ensures c.values.ensures) c.each_allowed.ensures)
