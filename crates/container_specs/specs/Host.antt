-- What a container is given of its host (Compose Specification, `devices`, `extra_hosts`, `ulimits`).
use Rattle.std.specs.Prelude.{ℕ, ◌==◌, List, [], ◌++◌, Option, Some, None, codes, length, map, unwrap_or, if◌then◌else◌}
use Rattle.attribute_types.specs.Lookups.{texts_at, ulimits_at}
use Rattle.attribute_types.specs.declared.attribute.Attribute.{Attribute}
use Rattle.attribute_types.specs.declared.rows.Ulimit.{Ulimit}
use Rattle.engine_types.specs.declared.Device.{Device}
use Rattle.engine_types.specs.declared.Ulimit as engine
use Rattle.short_forms.specs.Cuts.{cut_once}
use Rattle.container_specs.specs.Lists.{named_pairs, unless_empty}

-- what a `]` ends, where nothing stands behind it
abbrev pub closed_in : List ℕ → Option (List ℕ × List ℕ) → List ℕ
closed_in address (Some (inner, behind)) = if length behind == 0 then inner else address
closed_in address None = address

-- what a `[` begins, where nothing stands before it
abbrev pub opened_in : List ℕ → Option (List ℕ × List ℕ) → List ℕ
opened_in address (Some (before, rest)) =
    if length before == 0 then closed_in address (cut_once 93 rest) else address
opened_in address None = address

-- an address without the brackets that may stand around one of IPv6
abbrev pub bare_address : List ℕ → List ℕ
bare_address address = opened_in address (cut_once 91 address)

-- a host with its address, of which null is the empty text
abbrev pub host_of : List ℕ × Option (List ℕ) → List ℕ
host_of pair = pair.0 ++ codes ":" ++ bare_address (unwrap_or pair.1 [])

-- further hosts, in byte order of their names
abbrev pub extra_hosts_of : List Attribute → Option (List (List ℕ))
extra_hosts_of attributes = unless_empty (map host_of (named_pairs attributes (codes "extra_hosts")))

-- what may be done with a device of which nothing is said: read, write and make
abbrev pub all_permissions : List ℕ
all_permissions = codes "rwm"

-- a device by its path on the host and what stands behind that: its path in the container, and what may be done with it
abbrev pub device_behind : List ℕ → List ℕ → Option (List ℕ × List ℕ) → Device
device_behind host path None =
    record { path_on_host = host; path_in_container = path; cgroup_permissions = all_permissions }
device_behind host text (Some (path, permissions)) =
    record { path_on_host = host; path_in_container = path; cgroup_permissions = permissions }

-- a device by its path on the host alone, or with what stands behind the first colon
abbrev pub device_in : List ℕ → Option (List ℕ × List ℕ) → Device
device_in host None =
    record { path_on_host = host; path_in_container = host; cgroup_permissions = all_permissions }
device_in text (Some (host, rest)) = device_behind host rest (cut_once 58 rest)

-- the device of a text, `HOST[:CONTAINER[:PERMISSIONS]]`
abbrev pub device_of : List ℕ → Device
device_of text = device_in text (cut_once 58 text)

-- the devices
abbrev pub devices_of : List Attribute → Option (List Device)
devices_of attributes = unless_empty (map device_of (unwrap_or (texts_at attributes (codes "devices")) []))

-- a limit under its name
abbrev pub limit_of : Ulimit → engine.Ulimit
limit_of limit = record { name = limit.key; soft = limit.soft; hard = limit.hard }

-- the limits
abbrev pub ulimits_of : List Attribute → Option (List engine.Ulimit)
ulimits_of attributes = unless_empty (map limit_of (unwrap_or (ulimits_at attributes (codes "ulimits")) []))
