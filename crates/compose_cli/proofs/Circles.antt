-- The services of a project that was asked for don't depend on one another in a circle.
use Rattle.std.proofs.Common.{◌≡◌, ℕ, List, Ok, Err, None, ap}
use Rattle.std.specs.Prelude.{Option, Result}
use Rattle.active_services.specs.Profiles.{profiles_given}
use Rattle.asked_project.specs.Asking.{Variables}
use Rattle.asked_project.specs.Meaning.{IsSpelled, project_named, project_or_refused, with_origin}
use Rattle.circle_laws.proofs.Circles.{loaded_so}
use Rattle.compose_words.specs.declared.Options.{Options}
use Rattle.declared_set.specs.declared.LoadedProject.{LoadedProject}
use Rattle.loaded_files.specs.declared.Loaded.{Loaded}
use Rattle.loading_words.specs.declared.TreeRefusal.{TreeRefusal}
use Rattle.normal_form.specs.Projects.{project_of}
use Rattle.outside_files.specs.Files.{Contents}
use Rattle.refusals.specs.declared.Refusal.{Refusal}
use Rattle.service_graph.specs.Cycles.{cycle}
use Rattle.typed_project.specs.declared.project.Project.{Project}

abbrev made : Project → Result Project TreeRefusal
made project = Ok project

-- a project of the whole is one of what was loaded
project_is : (given : Result Project TreeRefusal) (project : Project) → project_or_refused given ≡ Ok project → given ≡ Ok project
project_is (Ok other) project e = let same : other ≡ project = cc e in ap made same
project_is (Err refusal) project e = absurd (cc e)

abbrev meant : Project → Result Project Refusal
meant project = Ok project

abbrev whole : Loaded → Project → LoadedProject
whole given project = record { project = project; files = given.files; directory = given.directory }

-- a project with what it was loaded from is the one that was loaded
origin_is : (given : Loaded) (found : Result Project Refusal) (loaded : LoadedProject) → with_origin given found ≡ Ok loaded → found ≡ Ok loaded.project
origin_is given (Ok project) loaded e = let same : whole given project ≡ loaded = cc e in ap (λ (p : LoadedProject). meant p.project) same
origin_is given (Err refusal) loaded e = absurd (cc e)

pub spelled_acyclic : (words : List (List ℕ)) (env : Variables) (cwd : List ℕ) (told : Option Contents) (loaded : LoadedProject) → IsSpelled words env cwd told loaded → cycle loaded.project.services ≡ None
spelled_acyclic words env cwd told loaded spelled = of spelled.0 spelled.2.0 spelled.2.2
  where
    of : (options : Options) (given : Loaded) → with_origin given (project_named options given) ≡ Ok loaded → cycle loaded.project.services ≡ None
    of options given e =
        loaded_so options.project (profiles_given options.profiles given.env) given loaded.project
        (project_is (project_of options.project (profiles_given options.profiles given.env) given) loaded.project (origin_is given (project_named options given) loaded e))
