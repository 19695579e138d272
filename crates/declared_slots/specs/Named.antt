-- What a slot is called, what its image is and when that is pulled, and how long its stop waits (Compose Specification: services).
use Rattle.std.specs.Prelude.{ℕ, ◌+◌, ◌*◌, ◌/◌, Bool, if◌then◌else◌, List, [], ◌∷◌, ◌++◌, Option, Some, None, codes, decimal, is_some, unwrap_or}
use Rattle.std.specs.Str.{bytes_eq}
use Rattle.tree_base.specs.Limits.{usual_stop_seconds}
use Rattle.attribute_types.specs.Lookups.{kept_at, number_at, text_at}
use Rattle.engine_types.specs.declared.declared.Policy.{Policy}
use Rattle.typed_project.specs.declared.service.Service.{Service}

-- the name of a container: `container_name`, or that of the project, the service and the number
abbrev pub name_of : List ℕ → Service → ℕ → List ℕ
name_of project service number =
    unwrap_or (text_at service.attributes (codes "container_name"))
    (project ++ codes "-" ++ service.key ++ codes "-" ++ decimal number)

-- the image: a service that is built without one has that of the project and the service
abbrev pub image_of : List ℕ → Service → List ℕ
image_of project service =
    unwrap_or (text_at service.attributes (codes "image")) (project ++ codes "-" ++ service.key)

-- the policy that a word says: other words than these two pull what is missing
abbrev pub policy_in : List ℕ → Policy
policy_in word =
    if bytes_eq word (codes "always") then Policy.Always
    else (if bytes_eq word (codes "never") then Policy.Never else Policy.Missing)

-- when the image is pulled
abbrev pub policy_of : Service → Policy
policy_of service = policy_in (unwrap_or (text_at service.attributes (codes "pull_policy")) [])

-- the service says how it is built
abbrev pub has_build : Service → Bool
has_build service = is_some (kept_at service.attributes (codes "build"))

-- microseconds in seconds, rounded up
abbrev pub in_seconds : ℕ → ℕ
in_seconds micros = (micros + 999999) / 1000000

-- how many seconds a stop waits before it kills
abbrev pub stop_seconds : Service → ℕ
stop_seconds service =
    in_seconds (unwrap_or (number_at service.attributes (codes "stop_grace_period")) (usual_stop_seconds * 1000000))
