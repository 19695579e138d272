-- The labels by which an Engine's containers, networks and volumes are known to belong to a project: those of Docker
-- Compose, and one of this program's own.
use Rattle.std.specs.Prelude.{ℕ, List, Option, find, codes}
use Rattle.std.specs.Option.{option_map}
use Rattle.std.specs.Str.{bytes_eq}
use Rattle.tree_base.specs.declared.place.Var.{Var}

-- the value under a name, None where no pair has it
abbrev pub label : List Var → List ℕ → Option (List ℕ)
label pairs name = option_map (λ pair. pair.value) (find (λ pair. bytes_eq pair.name name) pairs)

-- the name of the project
abbrev pub project_label : List ℕ
project_label = codes "com.docker.compose.project"

-- the name of the container's service
abbrev pub service_label : List ℕ
service_label = codes "com.docker.compose.service"

-- the container's number among those of its service, in decimal
abbrev pub number_label : List ℕ
number_label = codes "com.docker.compose.container-number"

-- the configuration's hash that the container was made with, in lower hexadecimal
abbrev pub hash_label : List ℕ
hash_label = codes "com.docker.compose.config-hash"

-- the version of the hash
abbrev pub version_label : List ℕ
version_label = codes "project-engine.hash-version"

-- the value of that label for a hash that covers the contents of the files that a service uses
abbrev pub hash_version : List ℕ
hash_version = codes "2"

-- whether the container was made for one run of a command
abbrev pub oneoff_label : List ℕ
oneoff_label = codes "com.docker.compose.oneoff"

-- the value of that label for a container that wasn't
abbrev pub not_oneoff : List ℕ
not_oneoff = codes "False"

-- the key of the network
abbrev pub network_label : List ℕ
network_label = codes "com.docker.compose.network"

-- the key of the volume
abbrev pub volume_label : List ℕ
volume_label = codes "com.docker.compose.volume"
