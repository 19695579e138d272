-- The files that a container sees (Compose Specification, `volumes`, `tmpfs`, `secrets`, `configs`).
use Rattle.std.specs.Prelude.{ℕ, Bool, true, false, List, [], ◌++◌, Option, Some, None, codes, filter, find, flat_map, map, reverse, unwrap_or}
use Rattle.std.specs.Option.{option_and_then, option_map, option_to_list}
use Rattle.std.specs.Str.{bytes_eq}
use Rattle.attribute_types.specs.Lookups.{files_at, mounts_at, text_at, texts_at}
use Rattle.attribute_types.specs.declared.attribute.Attribute.{Attribute}
use Rattle.attribute_types.specs.declared.rows.FileUse.{FileUse}
use Rattle.short_forms.specs.Cuts.{cut_once}
use Rattle.short_forms.specs.declared.mounts.Mount.{Mount}
use Rattle.short_forms.specs.declared.mounts.MountKind.{MountKind}
use Rattle.tree_base.specs.declared.Var.{Var}
use Rattle.typed_project.specs.declared.project.FileItem.{FileItem}
use Rattle.typed_project.specs.declared.project.Project.{Project}
use Rattle.typed_project.specs.declared.service.Service.{Service}
use Rattle.container_specs.specs.Lists.{each_once, unless_empty}

-- a source at a target of the container, and how it is there
abbrev pub bind_text : List ℕ → List ℕ → List ℕ → List ℕ
bind_text source target mode = source ++ codes ":" ++ target ++ codes ":" ++ mode

-- who may write, and the label of SELinux behind a comma
abbrev pub mode_of : Bool → Option (List ℕ) → List ℕ
mode_of true None = codes "ro"
mode_of true (Some label) = codes "ro," ++ label
mode_of false None = codes "rw"
mode_of false (Some label) = codes "rw," ++ label

-- the name of the volume with a key, where the project has it
abbrev pub volume_name : Project → List ℕ → Option (List ℕ)
volume_name project key =
    option_and_then (λ volume. text_at volume.attributes (codes "name"))
    (find (λ volume. bytes_eq volume.key key) project.volumes)

-- what a mount takes its files from: a path of the host, or the volume of a key by its name
abbrev pub source_of : Project → MountKind → Option (List ℕ) → Option (List ℕ)
source_of project MountKind.Bind source = source
source_of project MountKind.Volume source = option_and_then (volume_name project) source
source_of project MountKind.Tmpfs source = None

-- a mount as a bind, where it takes its files from somewhere
abbrev pub mount_bind : Project → Mount → Option (List ℕ)
mount_bind project mount =
    option_map (λ source. bind_text source mount.target (mode_of mount.read_only mount.selinux))
    (source_of project mount.kind mount.source)

-- the file of the secret or config with a key
abbrev pub file_of : List FileItem → List ℕ → Option (List ℕ)
file_of items key = option_map (λ item. item.file) (find (λ item. bytes_eq item.key key) items)

-- a secret or a config as a bind that can be read alone
abbrev pub file_bind : List FileItem → FileUse → Option (List ℕ)
file_bind items file =
    option_map (λ path. bind_text path file.target (codes "ro")) (file_of items file.source)

-- the mounts of a service
abbrev pub mounts_in : List Attribute → List Mount
mounts_in attributes = unwrap_or (mounts_at attributes (codes "volumes")) []

-- the binds of mounts, in their order
abbrev pub mount_binds : Project → List Mount → List (List ℕ)
mount_binds project mounts = flat_map (λ mount. option_to_list (mount_bind project mount)) mounts

-- the binds of secrets or configs, in their order; one that the project does not have is not there
abbrev pub file_binds : List FileItem → List FileUse → List (List ℕ)
file_binds items files = flat_map (λ file. option_to_list (file_bind items file)) files

-- the uses of secrets or configs under a name
abbrev pub files_in : List Attribute → List ℕ → List FileUse
files_in attributes name = unwrap_or (files_at attributes name) []

-- the binds of its mounts, its secrets and its configs, each in its own order
abbrev pub binds_of : Project → Service → Option (List (List ℕ))
binds_of project service =
    unless_empty (
    mount_binds project (mounts_in service.attributes)
    ++ file_binds project.secrets (files_in service.attributes (codes "secrets"))
    ++ file_binds project.configs (files_in service.attributes (codes "configs")))

-- a mount of a volume that has no name
abbrev pub is_unnamed : MountKind → Option (List ℕ) → Bool
is_unnamed MountKind.Volume None = true
is_unnamed other source = false

-- where volumes without a name stand, as a set
abbrev pub volumes_of : List Attribute → Option (List (List ℕ))
volumes_of attributes =
    unless_empty
    (each_once
    (map (λ mount. mount.target) (filter (λ mount. is_unnamed mount.kind mount.source) (mounts_in attributes))))

-- a mount that is in memory
abbrev pub is_in_memory : MountKind → Bool
is_in_memory MountKind.Tmpfs = true
is_in_memory other = false

-- a path that is in memory: its options stand behind the first colon
abbrev pub memory_at : List ℕ → Option (List ℕ × List ℕ) → Var
memory_at path None = record { name = path; value = [] }
memory_at text (Some (path, options)) = record { name = path; value = options }

-- the paths that are in memory, with their options: mounts have none
abbrev pub memory_paths : List Attribute → List Var
memory_paths attributes =
    map (λ mount. record { name = mount.target; value = [] })
    (filter (λ mount. is_in_memory mount.kind) (mounts_in attributes))
    ++ map (λ text. memory_at text (cut_once 58 text)) (unwrap_or (texts_at attributes (codes "tmpfs")) [])

-- the last of several values of a name
abbrev pub last_value : List Var → List ℕ → List ℕ
last_value vars name =
    unwrap_or (option_map (λ var. var.value) (find (λ var. bytes_eq var.name name) (reverse vars))) []

-- each path that is in memory with its options, in byte order; of several entries of a path the last counts
abbrev pub tmpfs_of : List Attribute → Option (List Var)
tmpfs_of attributes =
    let paths = memory_paths attributes in
    unless_empty
    (map (λ path. record { name = path; value = last_value paths path })
    (each_once (map (λ var. var.name) paths)))
