-- What holds of the declared set of each project.
use Rattle.std.specs.Prelude.{◌≡◌, ◌↔◌, ℕ, ◌<◌, ◌^◌, true, List, None, Ok, codes, map}
use Rattle.std.specs.List.{IsDistinct}
use Rattle.std.specs.Str.{bytes_eq}
use Rattle.attribute_types.specs.Lookups.{text_at}
use Rattle.compose_words.specs.declared.options.Scale.{Scale}
use Rattle.declared_set.specs.Declaring.{declared, declared_of}
use Rattle.declared_set.specs.Labels.{config_files_label, config_files_text, working_dir_label}
use Rattle.declared_set.specs.Refusing.{names_of}
use Rattle.declared_set.specs.declared.LoadedProject.{LoadedProject}
use Rattle.declared_slots.specs.Counts.{scale_of}
use Rattle.declared_slots.specs.Named.{name_of}
use Rattle.declared_slots.specs.Refusing.{twice_named}
use Rattle.engine_types.specs.declared.declared.Declared.{Declared}
use Rattle.engine_types.specs.declared.declared.Slot.{Slot}
use Rattle.run_model.specs.EngineRules.{Among, has_label}
use Rattle.run_model.specs.Plans.{IsWhole}
use Rattle.service_hashes.specs.declared.digest.FileDigest.{FileDigest}
use Rattle.tree_base.specs.declared.Var.{Var}
use Rattle.typed_project.specs.Projects.{IsInOrder}
use Rattle.typed_project.specs.declared.project.Project.{Project}
use Rattle.typed_project.specs.declared.service.Service.{Service}
use Rattle.world_laws.specs.OwnSpecs.{HasOwnSpecs}

-- what a project declares whose services stand in byte order of their keys is a whole declared set
abbrev pub DeclaredSetsAreWhole : Type 0
DeclaredSetsAreWhole =
    (loaded : LoadedProject) (scales : List Scale) (digests : List FileDigest)
    → IsInOrder loaded.project.services → IsWhole (declared_of loaded scales digests)

-- 32 bits number the containers of each service
abbrev pub AreNumbered : List Scale → List Service → Type 0
AreNumbered scales services =
    (service : Service) → Among services service → scale_of scales service < 2 ^ 32

-- what the Engine is sent for each slot is made for it: it has the slot's labels, its hash and its image, and begins on its first network
abbrev pub SpecsAreTheirSlots : Type 0
SpecsAreTheirSlots =
    (loaded : LoadedProject) (scales : List Scale) (digests : List FileDigest)
    → AreNumbered scales loaded.project.services → HasOwnSpecs (declared_of loaded scales digests)

-- labels say from which Compose files and in which directory a project was loaded, by the names that Docker Compose gives these
abbrev pub SayOrigin : LoadedProject → List Var → Type 0
SayOrigin loaded labels =
    (has_label labels config_files_label (config_files_text loaded.files) ≡ true)
    × (has_label labels working_dir_label loaded.directory ≡ true)

-- the container of each slot says so, whatever labels its service has
abbrev pub SlotsSayTheirOrigin : Type 0
SlotsSayTheirOrigin =
    (loaded : LoadedProject) (scales : List Scale) (digests : List FileDigest) (slot : Slot)
    → Among (declared_of loaded scales digests).slots slot → SayOrigin loaded slot.spec.labels

-- a service gives its containers no name of its own (the Compose Specification, `container_name`)
abbrev pub IsUnnamed : Service → Type 0
IsUnnamed service = text_at service.attributes (codes "container_name") ≡ None

-- the names by project, service and number tell the service and the number, also where a key has a dash in it
abbrev pub NamesTellSlots : Type 0
NamesTellSlots =
    (project : List ℕ) (service other : Service) (number another : ℕ)
    → IsUnnamed service → IsUnnamed other → number < 2 ^ 32 → another < 2 ^ 32
    → name_of project service number ≡ name_of project other another
    → (service.key ≡ other.key) × (number ≡ another)

-- the names of all slots differ, in each declared set that isn't refused
abbrev pub DeclaredNamesDiffer : Type 0
DeclaredNamesDiffer =
    (loaded : LoadedProject) (scales : List Scale) (digests : List FileDigest) (given : Declared)
    → declared loaded scales digests ≡ Ok given
    → IsDistinct bytes_eq (map (λ slot. slot.name) given.slots)

-- no name is told to stand twice exactly where all names differ
abbrev pub TwiceIsToldOfTwins : Type 0
TwiceIsToldOfTwins = (names : List (List ℕ)) → (twice_named names ≡ None) ↔ IsDistinct bytes_eq names

-- and none is refused for its names where no service gives a name of its own
abbrev pub UnnamedAreNotRefused : Type 0
UnnamedAreNotRefused =
    (project : Project) (scales : List Scale)
    → IsInOrder project.services → AreNumbered scales project.services
    → ((service : Service) → Among project.services service → IsUnnamed service)
    → twice_named (names_of project scales) ≡ None
