-- A project is refused where its services need one another in a circle.
use Rattle.std.proofs.Common.{◌≡◌, ◌∙◌, ℕ, List, Option, Some, None, Ok, Err, refl, sym, ap}
use Rattle.std.specs.Prelude.{Result, map}
use Rattle.active_services.specs.Profiles.{active}
use Rattle.circle_laws.specs.Laws.{LoadedProjectsHaveNoCircle, MeantProjectsHaveNoCircle}
use Rattle.loading_words.specs.declared.refusal.ProjectRefusal.{ProjectRefusal}
use Rattle.loading_words.specs.declared.refusal.TreeRefusal.{TreeRefusal}
use Rattle.normal_form.specs.Projects.{active_or_refused, project_among, project_name}
use Rattle.project_meaning.specs.Completing.{completed, completed_unless, service_keys, settled, settled_services, undefined_of, used_by, without_circle}
use Rattle.project_meaning.specs.Meaning as meaning
use Rattle.project_meaning.specs.Meaning.{declarations}
use Rattle.service_graph.specs.Cycles.{cycle}
use Rattle.tree_base.specs.Answers.{◌>>=◌}
use Rattle.tree_base.specs.declared.tree.Tree.{out-Tree}
use Rattle.typed_project.specs.declared.project.Project.{Project}
use Rattle.typed_project.specs.declared.service.Service.{Service}

-- what follows a result is asked of what the result gave
first : {X Y E : Type 0} (r : Result X E) (next : X → Result Y E) (y : Y) → (r >>= next) ≡ Ok y → (x : X) × (next x ≡ Ok y)
first (Ok x) next y h = (x, h)
first (Err refusal) next y h = absurd (cc h)

-- services that aren't refused are those that were asked, and have no circle
stay : (services : List Service) (circle : Option (List (List ℕ))) (those : List Service) → cycle services ≡ circle → without_circle services circle ≡ Ok those → cycle those ≡ None
stay services None those e h = let same : services ≡ those = cc h in ap cycle (sym same) ∙ e
stay services (Some circle) those e h = absurd (cc h)

module _ (declared project : Project) where
  abbrev all : List Service
  all = map (settled (service_keys declared)) declared.services

  settled_so : (r : Result (List Service) TreeRefusal) → settled_services declared ≡ r → (r >>= λ services. Ok (used_by declared services)) ≡ Ok project → cycle project.services ≡ None
  settled_so (Ok services) e h =
      let same : used_by declared services ≡ project = cc h in
      ap (λ (p : Project). cycle p.services) (sym same) ∙ stay all (cycle all) services refl e
  settled_so (Err refusal) e h = absurd (cc h)

  completed_so : (missing : Option ProjectRefusal) → completed_unless declared missing ≡ Ok project → cycle project.services ≡ None
  completed_so None h = settled_so (settled_services declared) refl h
  completed_so (Some refusal) h = absurd (cc h)

pub meant : MeantProjectsHaveNoCircle
meant name tree project h =
    let declared = first (declarations name (out-Tree tree)) completed project h in
    completed_so declared.0 project (undefined_of declared.0) declared.1

pub loaded_so : LoadedProjectsHaveNoCircle
loaded_so option profiles loaded project h =
    let named = first (project_name option loaded) (project_among profiles loaded.tree) project h in
    let kept = first (active_or_refused (active profiles loaded.tree)) (meaning.project_of named.0) project named.1 in
    meant named.0 kept.0 project kept.1
