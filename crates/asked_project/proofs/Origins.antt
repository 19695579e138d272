-- A project with what it was loaded from.
use Rattle.std.proofs.Common.{◌≡◌, Bool, true, false, Ok, Err, ap}
use Rattle.std.specs.Prelude.{IfErr, IfOk, Result}
use Rattle.asked_project.specs.Meaning.{with_origin}
use Rattle.asked_project.specs.Parts.{IsOfProject}
use Rattle.loaded_files.specs.declared.Loaded.{Loaded}
use Rattle.refusals.specs.Refused.{wants_memory}
use Rattle.refusals.specs.declared.Refusal.{Refusal}
use Rattle.tree_base.specs.Answers.{Gives, Unless}
use Rattle.typed_project.specs.DistinctNames.{IsKeyed}
use Rattle.typed_project.specs.declared.project.Project.{Project}

module _ (loaded : Loaded) where
  -- what a project answers, or its refusal, it answers with what it was loaded from
  pub gives_with : (project meant : Result Project Refusal) → Gives wants_memory project meant → Gives wants_memory (with_origin loaded project) (with_origin loaded meant)
  gives_with (Ok project) meant h = ap (with_origin loaded) h
  gives_with (Err refusal) meant h = at (wants_memory refusal) h
    where
      at : (wants : Bool) → Unless wants (meant ≡ Err refusal) → Unless wants (with_origin loaded meant ≡ Err refusal)
      at true h = tt
      at false h = ap (with_origin loaded) h

  pub keyed_with : (project : Result Project Refusal) → IfOk project IsKeyed → IfOk (with_origin loaded project) (λ p. IsKeyed p.project)
  keyed_with (Ok project) h = h
  keyed_with (Err refusal) h = tt

  pub kind_with : (project : Result Project Refusal) → IfErr project IsOfProject → IfErr (with_origin loaded project) IsOfProject
  kind_with (Ok project) h = tt
  kind_with (Err refusal) h = h
