use Rattle.std.proofs.Common.{◌≡◌, ◌∙◌, List, ap, map, subst}
use Rattle.std.specs.Prelude.{IfOk, Option}
use Rattle.loading_words.specs.declared.refusal.ProjectRefusal.{ProjectRefusal}
use Rattle.service_graph.specs.Cycles.{first_of}
use Rattle.typed_project.specs.declared.service.Service.{Service}
use Rattle.project_meaning.specs.Names.{undefined_among}
use Rattle.project_meaning.proofs.Whole.{all_undefined}
use Rattle.project_meaning.proofs.undefined.undefined_of.Goals as goal

pub returns : goal.returns
returns c =
    let keys = c.in_ok-keys.keys in
    let project = c.args.project.now in
    subst (λ (o : Option ProjectRefusal). IfOk c.first_undefined.result (λ found. found ≡ o))
    (ap (λ (l : List Service). first_of (map (undefined_among keys) l)) c.as_slice.ensures ∙ all_undefined keys project c.in_ok-keys.ensures.value project.services)
    c.first_undefined.ensures
