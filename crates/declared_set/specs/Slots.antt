-- The slots of services: a place for each container (Compose Specification: services, scale).
use Rattle.std.specs.Prelude.{ℕ, Bool, List, flat_map, map}
use Rattle.std.specs.List.{range_with_len}
use Rattle.container_specs.specs.Specs.{container_spec}
use Rattle.declared_resources.specs.Resources.{networks_of}
use Rattle.service_attaches.specs.Attaches.{attaches_of}
use Rattle.declared_slots.specs.Counts.{ranges_of, scale_of}
use Rattle.declared_slots.specs.Goals.{goal_of, is_awaited}
use Rattle.declared_slots.specs.Named.{has_build, image_of, name_of, policy_of, stop_seconds}
use Rattle.declared_slots.specs.Needs.{Ranges, needs_of}
use Rattle.compose_words.specs.declared.options.Scale.{Scale}
use Rattle.engine_types.specs.declared.declared.Slot.{Slot}
use Rattle.engine_types.specs.declared.resource.NetworkSpec.{NetworkSpec}
use Rattle.service_hashes.specs.Hashes.{hash, old_hash}
use Rattle.service_hashes.specs.declared.digest.FileDigest.{FileDigest}
use Rattle.typed_project.specs.declared.project.Project.{Project}
use Rattle.typed_project.specs.declared.service.Service.{Service}
use Rattle.declared_set.specs.Labels.{container_labels}
use Rattle.declared_set.specs.declared.loaded_project.LoadedProject.{LoadedProject}
use Rattle.declared_set.specs.declared.slots.Common.{Common}

-- what all slots of a service have in common: by the slots of each service, the project's networks, and whether the service's completion
-- is waited for
abbrev pub common_with : Project → Ranges → List NetworkSpec → Bool → List FileDigest → Service → Common
common_with project ranges networks awaited digests service = record {
  image = image_of project.name service;
  hash = hash service digests;
  old_hash = old_hash service;
  attach = attaches_of networks project service;
  needs = needs_of ranges service;
  goal = goal_of awaited service;
}

-- that of a service of a project
abbrev pub common_of : Project → List Scale → List FileDigest → Service → Common
common_of project scales digests service =
    common_with project (ranges_of scales project.services) (networks_of project)
    (is_awaited scales project.services service.key) digests service

-- the slot of a service with a number
abbrev pub slot_with : LoadedProject → Service → Common → ℕ → Slot
slot_with loaded service common number = record {
  service = service.key;
  number = number;
  name = name_of loaded.project.name service number;
  image = common.image;
  policy = policy_of service;
  has_build = has_build service;
  hash = common.hash;
  old_hash = common.old_hash;
  spec = container_spec loaded.project service (container_labels loaded service common.hash number) common.image;
  attach = common.attach;
  needs = common.needs;
  goal = common.goal;
  stop_seconds = stop_seconds service;
}

-- the slots of a service, which are numbered from one
abbrev pub slots_in : LoadedProject → List Scale → List FileDigest → Service → List Slot
slots_in loaded scales digests service =
    map (slot_with loaded service (common_of loaded.project scales digests service))
    (range_with_len 1 (scale_of scales service))

-- the slots of a project, service by service
abbrev pub slots_of : LoadedProject → List Scale → List FileDigest → List Slot
slots_of loaded scales digests = flat_map (slots_in loaded scales digests) loaded.project.services
