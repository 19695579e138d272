-- What a project declares (Compose Specification; the names and labels of Docker Compose).
use Rattle.std.specs.Prelude.{Bool, true, false, List, Option, Some, None, Result, Ok, Err, map}
use Rattle.compose_words.specs.declared.options.Scale.{Scale}
use Rattle.declared_resources.specs.Resources.{networks_of, volumes_of}
use Rattle.declared_slots.specs.Counts.{roll_of}
use Rattle.declared_slots.specs.Needs.{depends_on}
use Rattle.engine_types.specs.declared.declared.Declared.{Declared}
use Rattle.engine_types.specs.declared.declared.DeclaredService.{DeclaredService}
use Rattle.service_hashes.specs.declared.digest.FileDigest.{FileDigest}
use Rattle.typed_project.specs.declared.service.Service.{Service}
use Rattle.declared_set.specs.Refusing.{refusal_of}
use Rattle.declared_set.specs.Slots.{slots_of}
use Rattle.declared_set.specs.declared.loaded_project.LoadedProject.{LoadedProject}
use Rattle.declared_set.specs.declared.refusal.IdentityRefusal.{IdentityRefusal}

-- what is declared of a service beside its slots
abbrev pub service_of : Service → DeclaredService
service_of service = record { key = service.key; depends_on = depends_on service; roll = roll_of service }

-- what a project declares that was loaded so, with these numbers of `--scale` and these digests of its files
abbrev pub declared_of : LoadedProject → List Scale → List FileDigest → Declared
declared_of loaded scales digests = record {
  project = loaded.project.name;
  slots = slots_of loaded scales digests;
  services = map service_of loaded.project.services;
  networks = networks_of loaded.project;
  volumes = volumes_of loaded.project;
}

-- what is declared, unless it is refused
abbrev pub unless_refused : Declared → Option IdentityRefusal → Result Declared IdentityRefusal
unless_refused declared None = Ok declared
unless_refused declared (Some refusal) = Err refusal

-- the declared set of a project, or its refusal
abbrev pub declared : LoadedProject → List Scale → List FileDigest → Result Declared IdentityRefusal
declared loaded scales digests =
    unless_refused (declared_of loaded scales digests) (refusal_of loaded.project scales)

-- the refusal that comes for want of memory
abbrev pub wants_memory : IdentityRefusal → Bool
wants_memory IdentityRefusal.Memory = true
wants_memory refusal = false
