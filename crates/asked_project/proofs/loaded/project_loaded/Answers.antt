use Rattle.std.proofs.Common.{sym, subst}
use Rattle.std.specs.Prelude.{IfErr, IfOk, Result}
use Rattle.asked_project.specs.Meaning.{project_loaded, project_named}
use Rattle.asked_project.specs.Parts.{IsOfProject}
use Rattle.asked_project.proofs.Origins.{gives_with, keyed_with, kind_with}
use Rattle.declared_set.specs.declared.LoadedProject.{LoadedProject}
use Rattle.refusals.specs.Refused.{wants_memory}
use Rattle.refusals.specs.declared.Refusal.{Refusal}
use Rattle.tree_base.specs.Answers.{Gives}
use Rattle.typed_project.specs.DistinctNames.{IsKeyed}
use Rattle.asked_project.proofs.loaded.project_loaded.Goals as goal

pub returns-clause-told : goal.returns-clause-told
returns-clause-told c =
    subst (λ (r : Result LoadedProject Refusal). Gives wants_memory r (project_loaded c.args.options.now c.args.loaded)) (sym c.with_origin.ensures)
    (gives_with c.args.loaded c.project_named-project.result (project_named c.args.options.now c.args.loaded) c.project_named-project.ensures.told)

pub returns-clause-keyed : goal.returns-clause-keyed
returns-clause-keyed c =
    subst (λ (r : Result LoadedProject Refusal). IfOk r (λ project. IsKeyed project.project)) (sym c.with_origin.ensures)
    (keyed_with c.args.loaded c.project_named-project.result c.project_named-project.ensures.keyed)

pub returns-clause-kind : goal.returns-clause-kind
returns-clause-kind c =
    subst (λ (r : Result LoadedProject Refusal). IfErr r IsOfProject) (sym c.with_origin.ensures)
    (kind_with c.args.loaded c.project_named-project.result c.project_named-project.ensures.kind)
