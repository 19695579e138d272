use Rattle.std.proofs.Common.{◌∙◌, Option, ap, codes, subst, sym}
use Rattle.tree_base.specs.declared.Step.TheVariants.{Key}
use Rattle.tree_base.specs.declared.Tree.{Tree}
use Rattle.merge_tables.specs.Answers.{UpGives, under}
use Rattle.merge_tables.specs.Parts.{or_null}
use Rattle.merge_rules.specs.UnderExtends.{Asked, services_allowed}
use Rattle.merge_rules.proofs.AskedSteps.{no_services}
use Rattle.merge_rules.proofs.under_extends.services_in.Goals as goal

abbrev services_of : Option Tree → Asked
services_of found = under (Key (codes "services")) (services_allowed (or_null found))

pub returns-in-None : goal.returns-in-None
returns-in-None c = ap services_of (sym c.in-None.ensures) ∙ ap (under (Key (codes "services"))) no_services

pub returns-in-Some : goal.returns-in-Some
returns-in-Some c = subst (λ (found : Option Tree). UpGives c.named_services.result (services_of found)) c.in-Some.ensures c.named_services.ensures
