use Rattle.std.proofs.Common.{◌∙◌, ℕ, List, ap, subst, sym}
use Rattle.tree_base.specs.declared.Tree.{Tree}
use Rattle.merge_tables.specs.Answers.{UpGives}
use Rattle.merge_rules.specs.UnderExtends.{entries_allowed}
use Rattle.merge_rules.proofs.AskedSteps.{nothing_extends}
use Rattle.merge_rules.proofs.under_extends.service_allowed.Goals as goal

pub returns-in-None : goal.returns-in-None
returns-in-None c = ap entries_allowed c.in-None.ensures ∙ nothing_extends

pub returns-in-Some : goal.returns-in-Some
returns-in-Some c =
    subst (λ (entries : List (List ℕ × Tree)). UpGives c.entries_allowed.result (entries_allowed entries)) (sym c.in-Some.ensures) c.entries_allowed.ensures
