-- A project that keeps what its services name is the project of what they use.
use Rattle.std.proofs.Common.{◌≡◌, ℕ, Bool, List, ap, codes, ◌∙◌}
use Rattle.std.specs.Prelude.{filter, flat_map}
use Rattle.attribute_scalars.specs.Walks.{is_in}
use Rattle.typed_project.specs.declared.network.Network.{Network}
use Rattle.typed_project.specs.declared.project.FileItem.{FileItem}
use Rattle.typed_project.specs.declared.project.Project.{Project}
use Rattle.typed_project.specs.declared.service.Service.{Service}
use Rattle.typed_project.specs.declared.volume.Volume.{Volume}
use Rattle.project_meaning.specs.Completing.{default_key, files_named, is_used, networks_named, used_by, volumes_named, with_default_network}
use Rattle.project_meaning.specs.Names.{sorted}
use Rattle.project_meaning.proofs.Whole.{used_test}

abbrev pub networks_by : Project → (List ℕ → Bool) → List Network
networks_by project test =
    filter (λ network. test network.key) (with_default_network project.name (test default_key) project.networks)

abbrev pub volumes_by : List Volume → (List ℕ → Bool) → List Volume
volumes_by volumes test = filter (λ volume. test volume.key) volumes

abbrev pub files_by : List FileItem → (List ℕ → Bool) → List FileItem
files_by files test = filter (λ file. test file.key) files

module _ {X : Type 0} (kept : (List ℕ → Bool) → List X) (names : Service → List (List ℕ)) (services : List Service) where
  -- what is kept by all names, in byte order, is what is used
  by_use : (used : List (List ℕ)) (xs : List X) → used ≡ sorted (flat_map names services) → xs ≡ kept (is_in used) → xs ≡ kept (is_used names services)
  by_use used xs e are = are ∙ ap (λ (all : List (List ℕ)). kept (is_in all)) e ∙ ap kept (used_test names services)

pub kept_whole : (project : Project) (u v s c : List (List ℕ)) (networks : List Network) (volumes : List Volume) (secrets configs : List FileItem)
    → u ≡ sorted (flat_map networks_named project.services) → networks ≡ networks_by project (is_in u)
    → v ≡ sorted (flat_map volumes_named project.services) → volumes ≡ volumes_by project.volumes (is_in v)
    → s ≡ sorted (flat_map (files_named (codes "secrets")) project.services) → secrets ≡ files_by project.secrets (is_in s)
    → c ≡ sorted (flat_map (files_named (codes "configs")) project.services) → configs ≡ files_by project.configs (is_in c)
    → record { name = project.name; services = project.services; networks = networks; volumes = volumes; secrets = secrets; configs = configs } ≡ used_by project project.services
kept_whole project u v s c networks volumes secrets configs eu en ev evs es ess ec ecs =
    let n = by_use (networks_by project) networks_named project.services u networks eu en in
    let w = by_use (volumes_by project.volumes) volumes_named project.services v volumes ev evs in
    let f = by_use (files_by project.secrets) (files_named (codes "secrets")) project.services s secrets es ess in
    let g = by_use (files_by project.configs) (files_named (codes "configs")) project.services c configs ec ecs in
    λ i. record { name = project.name; services = project.services; networks = n i; volumes = w i; secrets = f i; configs = g i }
