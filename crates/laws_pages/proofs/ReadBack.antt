-- Projects of services by their images, as a file has them, are read back.
use Rattle.std.proofs.Common.{◌≡◌, ◌∙◌, ◌≤◌, ℕ, Bool, true, false, cond, List, [], ◌∷◌, None, Some, Ok, Err, length, map, codes, refl, ap}
use Rattle.std.specs.Prelude.{◌&&◌, ◌||◌, IsTrue, Result}
use Rattle.std.specs.List.{list_all}
use Rattle.std.specs.Option.{option_map_or}
use Rattle.active_services.proofs.AllEnabled.{models_stay}
use Rattle.active_services.specs.Laws as active
use Rattle.active_services.specs.Profiles.{Profiles, attribute_at, enables, entries_in, is_enabled, is_given}
use Rattle.active_services.specs.Profiles as of_profiles
use Rattle.active_services.specs.declared.refusal.ActiveRefusal.{ActiveRefusal}
use Rattle.loaded_files.specs.declared.Loaded.{Loaded}
use Rattle.loading_words.specs.declared.ProjectRefusal.{ProjectRefusal}
use Rattle.loading_words.specs.declared.TreeRefusal.{TreeRefusal}
use Rattle.normal_form.specs.ProjectNames.{base_name, is_name}
use Rattle.normal_form.specs.Projects.{active_or_refused, checked, name_by, name_given, name_in, name_or, project_among, project_name, project_of}
use Rattle.project_meaning.specs.Meaning.{is_key}
use Rattle.project_meaning.specs.Meaning as meaning
use Rattle.laws_pages.proofs.Meant.{attributes, elements, meant}
use Rattle.laws_pages.specs.PlainTrees.{entry_of, tree_of_project}
use Rattle.tree_base.specs.Answers.{◌>>=◌}
use Rattle.tree_base.specs.declared.tree.Tree.{Tree, out-Tree}
use Rattle.tree_base.specs.declared.tree.Tree.TheOpen.{Tree-F}
use Rattle.tree_base.specs.declared.tree.Tree.TheVariants.{outs-Map, outs-Scalar}
use Rattle.typed_project.specs.PlainProjects.{AreInOrder, PlainProject, PlainService}
use Rattle.typed_project.specs.PlainProjects as plain

-- a name that is one
is_checked : (name : List ℕ) → IsTrue (is_name name) → checked name ≡ Ok name
is_checked name h = at (is_name name) h
  where
    at : (b : Bool) → IsTrue b → cond b (Ok name) (Err (TreeRefusal.Name (ProjectRefusal.BadName name))) ≡ Ok name
    at true h = refl
    at false h = absurd (cc h)

named_so : (project : PlainProject) (base : List ℕ) → IsTrue (is_name project.name) → name_in base (out-Tree (tree_of_project project)) ≡ Ok project.name
named_so project base h = ap (name_in base) (outs-Map (elements project)) ∙ ap (λ tree. name_by base (Some tree)) (outs-Scalar project.name) ∙ is_checked project.name h

-- the name of a project, where the call gives none
named_there : (loaded : Loaded) (project : PlainProject) → loaded.tree ≡ tree_of_project project → name_given None loaded.env ≡ None → IsTrue (is_name project.name) → project_name None loaded ≡ Ok project.name
named_there loaded project is none is_one =
    ap (λ o. name_or o (name_in (base_name loaded.directory) (out-Tree loaded.tree))) none
    ∙ ap (λ (t : Tree). name_in (base_name loaded.directory) (out-Tree t)) is
    ∙ named_so project (base_name loaded.directory) is_one

-- a service, as a file has it, has no profiles
one_enabled : (profiles : Profiles) (service : PlainService) → is_enabled profiles (entry_of service).1 ≡ true
one_enabled profiles service =
    ap (λ (t : Tree-F Tree). is_given profiles (codes "*") || option_map_or (λ names. enables profiles (out-Tree names)) (attribute_at (codes "profiles") t) true) (outs-Map (attributes service))
    ∙ either (is_given profiles (codes "*"))
  where
    either : (b : Bool) → (b || true) ≡ true
    either true = refl
    either false = refl

all_enabled : (profiles : Profiles) (services : List PlainService) → list_all (λ (entry : List ℕ × Tree). is_enabled profiles entry.1) (map entry_of services) ≡ true
all_enabled profiles [] = refl
all_enabled profiles (service ∷ services) = ap (λ b. b && list_all (λ (entry : List ℕ × Tree). is_enabled profiles entry.1) (map entry_of services)) (one_enabled profiles service) ∙ all_enabled profiles services

-- the services of a project, as a file has it
their_entries : (project : PlainProject) → active.services_of (tree_of_project project) ≡ map entry_of project.services
their_entries project =
    ap (λ (t : Tree-F Tree). option_map_or (λ found. entries_in (out-Tree found)) (attribute_at (codes "services") t) []) (outs-Map (elements project))
    ∙ ap entries_in (outs-Map (map entry_of project.services))

stays_active : (profiles : Profiles) (project : PlainProject) → of_profiles.active profiles (tree_of_project project) ≡ Ok (tree_of_project project)
stays_active profiles project =
    models_stay profiles (tree_of_project project)
    (ap (list_all (λ (entry : List ℕ × Tree). is_enabled profiles entry.1)) (their_entries project) ∙ all_enabled profiles project.services)

pub project_back :
    (profiles : Profiles) (loaded : Loaded) (project : PlainProject) → loaded.tree ≡ tree_of_project project → name_given None loaded.env ≡ None
    → IsTrue (is_name project.name) → length project.services ≤ 1000 → AreInOrder project.services → list_all is_key (map (λ service. service.key) project.services) ≡ true
    → project_of None profiles loaded ≡ Ok (plain.project_of project)
project_back profiles loaded project is none is_one few order keys =
    ap (λ (r : Result (List ℕ) TreeRefusal). r >>= project_among profiles loaded.tree) (named_there loaded project is none is_one)
    ∙ ap (λ (t : Tree). project_among profiles t project.name) is
    ∙ ap (λ (r : Result Tree ActiveRefusal). active_or_refused r >>= meaning.project_of project.name) (stays_active profiles project)
    ∙ meant project few order keys
