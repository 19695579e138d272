-- What a page shows of a typed project: each attribute by its form, keys in byte order (the Compose Specification's names).
use Rattle.std.specs.Prelude.{ℕ, Bool, true, false, not, List, [], ◌∷◌, ◌++◌, Option, codes, filter, map}
use Rattle.std.specs.Fmt.{decimal, signed_decimal}
use Rattle.std.specs.List.{list_any}
use Rattle.std.specs.Option.{option_map_or}
use Rattle.std.specs.Str.{bytes_eq}
use Rattle.short_forms.specs.MountLaws.{flag_word, type_word}
use Rattle.short_forms.specs.Printed.{decimal_text, duration_text}
use Rattle.short_forms.specs.declared.mounts.Mount.{Mount}
use Rattle.short_forms.specs.declared.ports.Port.{Port}
use Rattle.tree_base.specs.declared.Tree.{Tree, fold-Tree}
use Rattle.tree_base.specs.declared.Tree.TheOpen.{Tree-F}
use Rattle.attribute_types.specs.declared.attribute.Attribute.{Attribute}
use Rattle.attribute_types.specs.declared.attribute.Value.{Value}
use Rattle.attribute_types.specs.declared.rows.Dependency.{Dependency}
use Rattle.attribute_types.specs.declared.rows.DependencyCondition.{DependencyCondition}
use Rattle.attribute_types.specs.declared.rows.FileUse.{FileUse}
use Rattle.attribute_types.specs.declared.rows.HealthCheck.{HealthCheck}
use Rattle.attribute_types.specs.declared.rows.Logging.{Logging}
use Rattle.attribute_types.specs.declared.rows.NetworkUse.{NetworkUse}
use Rattle.attribute_types.specs.declared.rows.Ulimit.{Ulimit}
use Rattle.typed_project.specs.declared.network.Network.{Network}
use Rattle.typed_project.specs.declared.project.FileItem.{FileItem}
use Rattle.typed_project.specs.declared.project.Project.{Project}
use Rattle.typed_project.specs.declared.service.Service.{Service}
use Rattle.typed_project.specs.declared.volume.Volume.{Volume}
use Rattle.project_print.specs.Json.{json_of, json_page_text}
use Rattle.project_print.specs.Pages.{page_text}
use Rattle.project_print.specs.declared.compact_json.Dollars.{Dollars}
use Rattle.project_print.specs.declared.node.Node.{Node}
use Rattle.project_print.specs.declared.node.Node.TheVariants.{Map, Null, Seq, Text, Word}

-- entries of a page
abbrev pub Shown : Type 0
Shown = List (List ℕ × Node)

-- an entry, where there is something to show
abbrev pub if_there : {X : Type 0} → List ℕ → (X → Node) → Option X → Shown
if_there name show found = option_map_or (λ x. (name, show x) ∷ []) found []

-- an entry of what isn't empty
abbrev pub if_any : {X : Type 0} → List ℕ → (List X → Node) → List X → Shown
if_any name show [] = []
if_any name show (x ∷ xs) = (name, show (x ∷ xs)) ∷ []

-- an entry of what is true
abbrev pub if_true : List ℕ → Bool → Shown
if_true name true = (name, Word (codes "true")) ∷ []
if_true name false = []

-- a bool, which stands as it is
abbrev pub bool_node : Bool → Node
bool_node given = Word (flag_word given)

-- a number
abbrev pub number_node : ℕ → Node
number_node number = Word (decimal number)

-- a duration
abbrev pub duration_node : ℕ → Node
duration_node micros = Text (duration_text micros)

-- texts
abbrev pub texts_node : List (List ℕ) → Node
texts_node texts = Seq (map Text texts)

-- a pair: a key, and a text or null
abbrev pub pair_entry : List ℕ × Option (List ℕ) → List ℕ × Node
pair_entry (key, value) = (key, option_map_or Text value Null)

-- pairs
abbrev pub pairs_node : List (List ℕ × Option (List ℕ)) → Node
pairs_node pairs = Map (map pair_entry pairs)

-- a mapping that is kept: its scalars are texts
abbrev pub kept_step : Tree-F Node → Node
kept_step Tree-F.Null = Null
kept_step (Tree-F.Scalar text) = Text text
kept_step (Tree-F.Map entries) = Map entries
kept_step (Tree-F.Seq items) = Seq items
kept_step Tree-F.Reset = Null
kept_step (Tree-F.Override inner) = inner

-- and all that is in it
abbrev pub kept_node : Tree → Node
kept_node = fold-Tree Node kept_step

-- a limit under its key
abbrev pub ulimit_entry : Ulimit → List ℕ × Node
ulimit_entry limit = (
  limit.key,
  Map ((codes "hard", Word (signed_decimal limit.hard)) ∷ (codes "soft", Word (signed_decimal limit.soft)) ∷ []),
)

-- where output goes
abbrev pub logging_node : Logging → Node
logging_node logging =
    Map (if_there (codes "driver") Text logging.driver ++ if_any (codes "options") pairs_node logging.options)

-- a port
abbrev pub port_node : Port → Node
port_node port =
    Map (if_there (codes "host_ip") Text port.host_ip
    ++ (codes "protocol", Text port.protocol)
    ∷ (if_there (codes "published") Text port.published
    ++ (codes "target", number_node port.target) ∷ []))

-- the options of a bind: its label
abbrev pub label_node : List ℕ → Node
label_node label = Map ((codes "selinux", Text label) ∷ [])

-- a mount
abbrev pub mount_node : Mount → Node
mount_node mount =
    Map (if_there (codes "bind") label_node mount.selinux
    ++ (if_true (codes "read_only") mount.read_only
    ++ (if_there (codes "source") Text mount.source
    ++ (codes "target", Text mount.target) ∷ (codes "type", Text (type_word mount.kind)) ∷ [])))

-- the use of a secret or a config
abbrev pub file_use_node : FileUse → Node
file_use_node file =
    Map (if_there (codes "gid") Text file.gid
    ++ (if_there (codes "mode") Text file.mode
    ++ (codes "source", Text file.source) ∷ (codes "target", Text file.target)
    ∷ if_there (codes "uid") Text file.uid))

-- what is said of a network that is joined: the further names, or nothing
abbrev pub aliases_node : List (List ℕ) → Node
aliases_node [] = Null
aliases_node (alias ∷ aliases) = Map ((codes "aliases", texts_node (alias ∷ aliases)) ∷ [])

-- a network that is joined
abbrev pub network_use_entry : NetworkUse → List ℕ × Node
network_use_entry joined = (joined.key, aliases_node joined.aliases)

-- how health is asked
abbrev pub check_node : HealthCheck → Node
check_node check =
    Map (if_there (codes "disable") bool_node check.disable
    ++ (if_there (codes "interval") duration_node check.interval
    ++ (if_there (codes "retries") number_node check.retries
    ++ (if_there (codes "start_interval") duration_node check.start_interval
    ++ (if_there (codes "start_period") duration_node check.start_period
    ++ (if_there (codes "test") texts_node check.test
    ++ if_there (codes "timeout") duration_node check.timeout))))))

-- what is waited for
abbrev pub condition_word : DependencyCondition → List ℕ
condition_word DependencyCondition.Started = codes "service_started"
condition_word DependencyCondition.Healthy = codes "service_healthy"
condition_word DependencyCondition.Completed = codes "service_completed_successfully"

-- a dependency
abbrev pub dependency_entry : Dependency → List ℕ × Node
dependency_entry need = (
  need.key,
  Map ((codes "condition", Text (condition_word need.condition))
      ∷ (codes "required", bool_node need.required) ∷ if_true (codes "restart") need.restart),
)

-- what a page shows of a value
abbrev pub value_node : Value → Node
value_node (Value.Text text) = Text text
value_node (Value.Bool given) = bool_node given
value_node (Value.Num number) = number_node number
value_node (Value.Int number) = Word (signed_decimal number)
value_node (Value.List texts) = texts_node texts
value_node (Value.Pairs pairs) = pairs_node pairs
value_node (Value.Argv words) = texts_node words
value_node (Value.Duration micros) = duration_node micros
value_node (Value.Size bytes) = number_node bytes
value_node (Value.Decimal billionths) = Text (decimal_text billionths)
value_node (Value.Port port) = number_node port
value_node (Value.Kept tree) = kept_node tree
value_node (Value.Ulimits limits) = Map (map ulimit_entry limits)
value_node (Value.Logging logging) = logging_node logging
value_node (Value.Ports ports) = Seq (map port_node ports)
value_node (Value.Mounts mounts) = Seq (map mount_node mounts)
value_node (Value.Files files) = Seq (map file_use_node files)
value_node (Value.Networks networks) = Map (map network_use_entry networks)
value_node (Value.HealthCheck check) = check_node check
value_node (Value.Dependencies needs) = Map (map dependency_entry needs)

-- an attribute under its name
abbrev pub attribute_entry : Attribute → List ℕ × Node
attribute_entry attribute = (attribute.name, value_node attribute.value)

-- attributes, which stand in byte order of their names
abbrev pub attributes_node : List Attribute → Node
attributes_node attributes = Map (map attribute_entry attributes)

-- a service under its key
abbrev pub service_entry : Service → List ℕ × Node
service_entry service = (service.key, attributes_node service.attributes)

-- a network under its key
abbrev pub network_entry : Network → List ℕ × Node
network_entry network = (network.key, attributes_node network.attributes)

-- a volume under its key
abbrev pub volume_entry : Volume → List ℕ × Node
volume_entry volume = (volume.key, attributes_node volume.attributes)

-- a secret or a config under its key
abbrev pub file_entry : FileItem → List ℕ × Node
file_entry item = (item.key, Map ((codes "file", Text item.file) ∷ []))

-- what the page shows of a project: the sections that aren't empty, and always its name and its services
abbrev pub project_node : Project → Node
project_node project =
    Map (if_any (codes "configs") (λ configs. Map (map file_entry configs)) project.configs
    ++ (codes "name", Text project.name)
    ∷ (if_any (codes "networks") (λ networks. Map (map network_entry networks)) project.networks
    ++ (if_any (codes "secrets") (λ secrets. Map (map file_entry secrets)) project.secrets
    ++ (codes "services", Map (map service_entry project.services))
    ∷ if_any (codes "volumes") (λ volumes. Map (map volume_entry volumes)) project.volumes)))

-- the page of a project
abbrev pub page : Project → List ℕ
page project = page_text (project_node project)

-- the page of a project as JSON
abbrev pub page_json : Project → List ℕ
page_json project = json_page_text (project_node project)

-- the attributes that change no container
abbrev pub unhashed_names : List (List ℕ)
unhashed_names =
    codes "build" ∷ codes "depends_on" ∷ codes "deploy" ∷ codes "profiles" ∷ codes "pull_policy" ∷ codes "scale" ∷ []

-- what is hashed of a service: its other attributes as JSON, with their dollars once
abbrev pub service_json : Service → List ℕ
service_json service =
    json_of Dollars.Once
    (attributes_node (filter (λ attribute. not (list_any (bytes_eq attribute.name) unhashed_names)) service.attributes))
