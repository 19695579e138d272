-- Attributes that have attributes of their own (Compose Specification: the long syntaxes of `ports`, `volumes`, `secrets`, `configs`,
-- `networks`, `depends_on`, and `ulimits`, `logging`, `healthcheck`).
use Rattle.std.specs.Prelude.{ℕ, ℤ, ◌++◌, ◌||◌, Bool, true, false, not, List, [], ◌∷◌, Option, Some, None, Ok, codes, nat_eq, unwrap_or, is_some, if◌then◌else◌}
use Rattle.std.specs.List.{starts_with}
use Rattle.std.specs.Str.{bytes_eq}
use Rattle.short_forms.specs.declared.mounts.Mount.{Mount}
use Rattle.short_forms.specs.declared.mounts.MountKind.{MountKind}
use Rattle.short_forms.specs.declared.ports.Port.{Port}
use Rattle.tree_base.specs.Answers.{◌>>=◌}
use Rattle.tree_base.specs.declared.Tree.{Tree, out-Tree}
use Rattle.tree_base.specs.declared.Tree.TheOpen.{Tree-F}
use Rattle.attribute_types.specs.Answers.{refused}
use Rattle.attribute_types.specs.Tables.{dependency_lines, file_use_lines, health_lines, logging_lines, mount_lines, network_use_lines, port_lines, ulimit_lines}
use Rattle.attribute_types.specs.declared.attribute.Attribute.{Attribute}
use Rattle.attribute_types.specs.declared.attribute.Value.{Value}
use Rattle.attribute_types.specs.declared.form.Row.{Row}
use Rattle.attribute_types.specs.declared.refusal.Fault.{Fault}
use Rattle.attribute_types.specs.declared.rows.Dependency.{Dependency}
use Rattle.attribute_types.specs.declared.rows.DependencyCondition.{DependencyCondition}
use Rattle.attribute_types.specs.declared.rows.FileUse.{FileUse}
use Rattle.attribute_types.specs.declared.rows.HealthCheck.{HealthCheck}
use Rattle.attribute_types.specs.declared.rows.NetworkUse.{NetworkUse}
use Rattle.attribute_types.specs.declared.rows.Ulimit.{Ulimit}
use Rattle.attribute_values.specs.Fields.{fields_of}
use Rattle.attribute_values.specs.Forms.{kept_if_any, is_bind}
use Rattle.attribute_scalars.specs.Scalars.{int_of, written}
use Rattle.attribute_scalars.specs.Walks.{Entries, Read, each_entry, each_item, in_byte_order}
use Rattle.attribute_types.specs.Lookups.{bool_at, int_at, number_at, pairs_at, port_at, text_at, texts_at}

-- the entries of a mapping; another tree is of another kind
abbrev pub entries_in : Tree-F Tree → Read Entries
entries_in (Tree-F.Map entries) = Ok entries
entries_in tree = refused Fault.WrongKind

-- the items of a sequence
abbrev pub items_in : Tree-F Tree → Read (List Tree)
items_in (Tree-F.Seq items) = Ok items
items_in tree = refused Fault.WrongKind

-- what a mapping's entries give together
abbrev pub in_mapping : {X : Type 0} → (Entries → Read X) → Tree-F Tree → Read X
in_mapping read tree = entries_in tree >>= read

-- what a mapping's entries give, in byte order of their keys
abbrev pub keyed : {X : Type 0} → (List ℕ → Tree-F Tree → Read (List X)) → Tree-F Tree → Read (List X)
keyed read tree =
    entries_in tree >>= λ entries.
    each_entry (λ key value. read key (out-Tree value)) (in_byte_order entries)

-- what a sequence's items give, each of them a mapping
abbrev pub listed : {X : Type 0} → (Entries → Read X) → Tree-F Tree → Read (List X)
listed read tree =
    items_in tree >>= λ items. each_item (λ item. in_mapping read (out-Tree item)) 0 items

-- a limit of two numbers
abbrev pub ulimit_with : List ℕ → Option ℤ → Option ℤ → List Ulimit
ulimit_with key (Some soft) (Some hard) = record { key = key; soft = soft; hard = hard } ∷ []
ulimit_with key soft hard = []

-- a limit by its attributes, which are both there
abbrev pub ulimit_from : List ℕ → List Attribute → List Ulimit
ulimit_from key attributes =
    ulimit_with key (int_at attributes (codes "soft")) (int_at attributes (codes "hard"))

-- a limit: one number for both, or both; null is none
abbrev pub ulimit_of : List ℕ → Tree-F Tree → Read (List Ulimit)
ulimit_of key Tree-F.Null = Ok []
ulimit_of key (Tree-F.Map entries) =
    fields_of ulimit_lines (codes "hard" ∷ codes "soft" ∷ []) entries >>= λ attributes.
    Ok (ulimit_from key attributes)
ulimit_of key tree =
    written int_of tree >>= λ number. Ok (record { key = key; soft = number; hard = number } ∷ [])

-- where output goes, where something is said of it
abbrev pub logging_from : List Attribute → Option Value
logging_from [] = None
logging_from (attribute ∷ attributes) =
    let all = attribute ∷ attributes in
    Some (Value.Logging (record {
      driver = text_at all (codes "driver");
      options = unwrap_or (pairs_at all (codes "options")) [];
    }))

-- where output goes
abbrev pub logging_of : Tree-F Tree → Read (Option Value)
logging_of tree =
    in_mapping (fields_of logging_lines []) tree >>= λ attributes. Ok (logging_from attributes)

-- a port by its attributes; its protocol is tcp where none is named
abbrev pub port_from : List Attribute → Port
port_from attributes = record {
  host_ip = text_at attributes (codes "host_ip");
  published = text_at attributes (codes "published");
  target = unwrap_or (port_at attributes (codes "target")) 0;
  protocol = unwrap_or (text_at attributes (codes "protocol")) (codes "tcp");
}

-- a port, which has a target
abbrev pub port_of : Entries → Read Port
port_of entries =
    fields_of port_lines (codes "target" ∷ []) entries >>= λ attributes. Ok (port_from attributes)

-- what a mount takes by the word of its type, which is one of three
abbrev pub mount_kind : List ℕ → MountKind
mount_kind word =
    if bytes_eq word (codes "bind") then MountKind.Bind
    else (if bytes_eq word (codes "tmpfs") then MountKind.Tmpfs else MountKind.Volume)

-- a mount by its attributes
abbrev pub mount_from : List Attribute → Mount
mount_from attributes = record {
  kind = mount_kind (unwrap_or (text_at attributes (codes "type")) []);
  source = text_at attributes (codes "source");
  target = unwrap_or (text_at attributes (codes "target")) [];
  read_only = is_some (bool_at attributes (codes "read_only"));
  selinux = text_at attributes (codes "bind");
}

-- what a mount has to have: a type and a target, and a bind its source
abbrev pub wanted_of_mount : Entries → List (List ℕ)
wanted_of_mount entries =
    if is_bind entries then codes "source" ∷ codes "target" ∷ codes "type" ∷ []
    else codes "target" ∷ codes "type" ∷ []

-- a mount
abbrev pub mount_of : Entries → Read Mount
mount_of entries =
    fields_of mount_lines (wanted_of_mount entries) entries >>= λ attributes.
    Ok (mount_from attributes)

-- where files of a kind are seen in a container that are given no place, and whether a place that begins at no root is there too
pub record Folder : Type 0 where
  pub path : List ℕ
  pub takes_relative : Bool

-- secrets
abbrev pub of_secrets : Folder
of_secrets = record { path = codes "/run/secrets/"; takes_relative = true }

-- configs
abbrev pub of_configs : Folder
of_configs = record { path = codes "/"; takes_relative = false }

-- a path begins at the root
abbrev pub is_rooted : List ℕ → Bool
is_rooted path = starts_with nat_eq path (codes "/")

-- where a file is seen: at the place that it is given, and else under the name of its source
abbrev pub seen_at : Folder → List ℕ → Option (List ℕ) → List ℕ
seen_at folder source None = folder.path ++ source
seen_at folder source (Some target) =
    if is_rooted target || not folder.takes_relative then target else folder.path ++ target

-- the use of a secret or a config by its attributes
abbrev pub file_use_from : Folder → List Attribute → FileUse
file_use_from folder attributes =
    let source = unwrap_or (text_at attributes (codes "source")) [] in record {
      source = source;
      target = seen_at folder source (text_at attributes (codes "target"));
      uid = text_at attributes (codes "uid");
      gid = text_at attributes (codes "gid");
      mode = text_at attributes (codes "mode");
    }

-- the use of a secret or a config, which has a source
abbrev pub file_use_of : Folder → Entries → Read FileUse
file_use_of folder entries =
    fields_of file_use_lines (codes "source" ∷ []) entries >>= λ attributes.
    Ok (file_use_from folder attributes)

-- a network that is joined, maybe under further names
abbrev pub network_use_of : List ℕ → Tree-F Tree → Read (List NetworkUse)
network_use_of key Tree-F.Null = Ok (record { key = key; aliases = [] } ∷ [])
network_use_of key tree =
    in_mapping (fields_of network_use_lines []) tree >>= λ attributes.
    Ok (record { key = key; aliases = unwrap_or (texts_at attributes (codes "aliases")) [] } ∷ [])

-- a health check that is never made
abbrev pub no_check : HealthCheck
no_check = record {
  test = Some (codes "NONE" ∷ []);
  interval = None;
  timeout = None;
  start_period = None;
  start_interval = None;
  retries = None;
  disable = None;
}

-- a health check by its attributes
abbrev pub check_from : List Attribute → HealthCheck
check_from attributes = record {
  test = texts_at attributes (codes "test");
  interval = number_at attributes (codes "interval");
  timeout = number_at attributes (codes "timeout");
  start_period = number_at attributes (codes "start_period");
  start_interval = number_at attributes (codes "start_interval");
  retries = number_at attributes (codes "retries");
  disable = bool_at attributes (codes "disable");
}

-- a health check that is said to be disabled is none, whatever else is said
abbrev pub check_or_none : Bool → List Attribute → HealthCheck
check_or_none true attributes = no_check
check_or_none false attributes = check_from attributes

-- a health check, where something is said of it
abbrev pub health_from : List Attribute → Option Value
health_from [] = None
health_from (attribute ∷ attributes) =
    let all = attribute ∷ attributes in
    Some (Value.HealthCheck (check_or_none (unwrap_or (bool_at all (codes "disable")) false) all))

-- how health is asked
abbrev pub health_of : Tree-F Tree → Read (Option Value)
health_of tree =
    in_mapping (fields_of health_lines []) tree >>= λ attributes. Ok (health_from attributes)

-- what is waited for, by its word: that the service is started, where none is given
abbrev pub condition_of : Option (List ℕ) → DependencyCondition
condition_of None = DependencyCondition.Started
condition_of (Some word) =
    if bytes_eq word (codes "service_healthy") then DependencyCondition.Healthy
    else (if bytes_eq word (codes "service_completed_successfully") then DependencyCondition.Completed
    else DependencyCondition.Started)

-- a dependency by its attributes
abbrev pub dependency_from : List ℕ → List Attribute → Dependency
dependency_from key attributes = record {
  key = key;
  condition = condition_of (text_at attributes (codes "condition"));
  required = unwrap_or (bool_at attributes (codes "required")) true;
  restart = is_some (bool_at attributes (codes "restart"));
}

-- a dependency; null is one of which nothing is said
abbrev pub dependency_of : List ℕ → Tree-F Tree → Read (List Dependency)
dependency_of key Tree-F.Null = Ok (dependency_from key [] ∷ [])
dependency_of key tree =
    in_mapping (fields_of dependency_lines []) tree >>= λ attributes.
    Ok (dependency_from key attributes ∷ [])

-- the value of an attribute that has attributes of its own, of a tree that isn't null; None where it is as good as none
abbrev pub row_value : Row → Tree-F Tree → Read (Option Value)
row_value Row.Ulimits tree = kept_if_any Value.Ulimits (keyed ulimit_of tree)
row_value Row.Logging tree = logging_of tree
row_value Row.Ports tree = kept_if_any Value.Ports (listed port_of tree)
row_value Row.Mounts tree = kept_if_any Value.Mounts (listed mount_of tree)
row_value Row.Secrets tree = kept_if_any Value.Files (listed (file_use_of of_secrets) tree)
row_value Row.Configs tree = kept_if_any Value.Files (listed (file_use_of of_configs) tree)
row_value Row.Networks tree = kept_if_any Value.Networks (keyed network_use_of tree)
row_value Row.HealthCheck tree = health_of tree
row_value Row.Dependencies tree = kept_if_any Value.Dependencies (keyed dependency_of tree)
