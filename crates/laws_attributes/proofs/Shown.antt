-- The trees that a page shows of values.
use Rattle.std.proofs.Common.{ℕ, Bool, true, false, cond, List, [], ◌∷◌, ◌++◌, Option, Some, None, codes, map}
use Rattle.std.specs.Fmt.{decimal, signed_decimal}
use Rattle.std.specs.Option.{option_map, option_map_or}
use Rattle.std.specs.Str.{bytes_eq}
use Rattle.short_forms.specs.MountLaws.{flag_word, type_word}
use Rattle.short_forms.specs.Printed.{decimal_text, duration_text}
use Rattle.short_forms.specs.declared.mounts.Mount.{Mount}
use Rattle.short_forms.specs.declared.ports.Port.{Port}
use Rattle.tree_base.specs.declared.tree.Tree.{Tree}
use Rattle.tree_base.specs.declared.tree.Tree.TheVariants.{Map, Null, Scalar, Seq}
use Rattle.attribute_types.specs.declared.attribute.Attribute.{Attribute}
use Rattle.attribute_types.specs.declared.attribute.Value.{Value}
use Rattle.attribute_types.specs.declared.rows.Dependency.{Dependency}
use Rattle.attribute_types.specs.declared.rows.DependencyCondition.{DependencyCondition}
use Rattle.attribute_types.specs.declared.rows.FileUse.{FileUse}
use Rattle.attribute_types.specs.declared.rows.HealthCheck.{HealthCheck}
use Rattle.attribute_types.specs.declared.rows.Logging.{Logging}
use Rattle.attribute_types.specs.declared.rows.NetworkUse.{NetworkUse}
use Rattle.attribute_types.specs.declared.rows.Ulimit.{Ulimit}
use Rattle.attribute_scalars.specs.Lists.{if_any}
use Rattle.attribute_values.specs.Fields.{named}
use Rattle.laws_attributes.proofs.Gifts.{shown_by}

-- a pair
abbrev pub pair_tree : List ℕ × Option (List ℕ) → List ℕ × Tree
pair_tree pair = (pair.0, option_map_or Scalar pair.1 Null)

-- texts
abbrev pub texts_tree : List (List ℕ) → Tree
texts_tree texts = Seq (map Scalar texts)

-- pairs
abbrev pub pairs_tree : List (List ℕ × Option (List ℕ)) → Tree
pairs_tree pairs = Map (map pair_tree pairs)

-- a value without attributes of its own
abbrev pub leaf_tree : Value → Tree
leaf_tree (Value.Text text) = Scalar text
leaf_tree (Value.Bool given) = Scalar (flag_word given)
leaf_tree (Value.Num number) = Scalar (decimal number)
leaf_tree (Value.Int number) = Scalar (signed_decimal number)
leaf_tree (Value.List texts) = texts_tree texts
leaf_tree (Value.Pairs pairs) = pairs_tree pairs
leaf_tree (Value.Argv words) = texts_tree words
leaf_tree (Value.Duration micros) = Scalar (duration_text micros)
leaf_tree (Value.Size bytes) = Scalar (decimal bytes)
leaf_tree (Value.Decimal billionths) = Scalar (decimal_text billionths)
leaf_tree (Value.Port port) = Scalar (decimal port)
leaf_tree (Value.Kept tree) = tree
leaf_tree other = Null

-- names, each with a value or none
abbrev pub Rows : Type 0
Rows = List (List ℕ × Option Value)

-- the attributes that are there
abbrev pub present : Rows → List Attribute
present [] = []
present (row ∷ rows) = named row.0 row.1 ++ present rows

-- the tree of an attribute
abbrev pub leaf : Attribute → Tree
leaf attribute = leaf_tree attribute.value

abbrev pub rows_tree : Rows → Tree
rows_tree rows = Map (shown_by leaf (present rows))

-- a limit
abbrev pub ulimit_rows : Ulimit → Rows
ulimit_rows limit = (codes "hard", Some (Value.Int limit.hard)) ∷ (codes "soft", Some (Value.Int limit.soft)) ∷ []

-- where output goes
abbrev pub logging_rows : Logging → Rows
logging_rows logging = (codes "driver", option_map Value.Text logging.driver) ∷ (codes "options", option_map Value.Pairs (if_any logging.options)) ∷ []

-- a port
abbrev pub port_rows : Port → Rows
port_rows port =
    (codes "host_ip", option_map Value.Text port.host_ip)
    ∷ (codes "protocol", Some (Value.Text port.protocol))
    ∷ (codes "published", option_map Value.Text port.published)
    ∷ (codes "target", Some (Value.Port port.target)) ∷ []

-- a flag that is set
abbrev pub flag_value : Bool → Option Value
flag_value true = Some (Value.Bool true)
flag_value false = None

-- a mount
abbrev pub mount_rows : Mount → Rows
mount_rows mount =
    (codes "bind", option_map Value.Text mount.selinux)
    ∷ (codes "read_only", flag_value mount.read_only)
    ∷ (codes "source", option_map Value.Text mount.source)
    ∷ (codes "target", Some (Value.Text mount.target))
    ∷ (codes "type", Some (Value.Text (type_word mount.kind))) ∷ []

-- the options of a bind: its label
abbrev pub label_tree : Value → Tree
label_tree (Value.Text label) = Map ((codes "selinux", Scalar label) ∷ [])
label_tree other = Null

-- the tree of an attribute of a mount
abbrev pub mount_leaf : Attribute → Tree
mount_leaf attribute = cond (bytes_eq attribute.name (codes "bind")) (label_tree attribute.value) (leaf_tree attribute.value)

abbrev pub mount_tree : Mount → Tree
mount_tree mount = Map (shown_by mount_leaf (present (mount_rows mount)))

-- the use of a secret or a config
abbrev pub file_rows : FileUse → Rows
file_rows file =
    (codes "gid", option_map Value.Text file.gid)
    ∷ (codes "mode", option_map Value.Text file.mode)
    ∷ (codes "source", Some (Value.Text file.source))
    ∷ (codes "target", Some (Value.Text file.target))
    ∷ (codes "uid", option_map Value.Text file.uid) ∷ []

-- a network that is joined
abbrev pub aliases_tree : List (List ℕ) → Tree
aliases_tree [] = Null
aliases_tree (alias ∷ aliases) = rows_tree ((codes "aliases", Some (Value.List (alias ∷ aliases))) ∷ [])

-- how health is asked
abbrev pub check_rows : HealthCheck → Rows
check_rows check =
    (codes "disable", option_map Value.Bool check.disable)
    ∷ (codes "interval", option_map Value.Duration check.interval)
    ∷ (codes "retries", option_map Value.Num check.retries)
    ∷ (codes "start_interval", option_map Value.Duration check.start_interval)
    ∷ (codes "start_period", option_map Value.Duration check.start_period)
    ∷ (codes "test", option_map Value.Argv check.test)
    ∷ (codes "timeout", option_map Value.Duration check.timeout) ∷ []

-- what is waited for
abbrev pub condition_text : DependencyCondition → List ℕ
condition_text DependencyCondition.Started = codes "service_started"
condition_text DependencyCondition.Healthy = codes "service_healthy"
condition_text DependencyCondition.Completed = codes "service_completed_successfully"

-- a dependency
abbrev pub need_rows : Dependency → Rows
need_rows need =
    (codes "condition", Some (Value.Text (condition_text need.condition)))
    ∷ (codes "required", Some (Value.Bool need.required)) ∷ (codes "restart", flag_value need.restart) ∷ []

abbrev pub ulimit_tree : Ulimit → List ℕ × Tree
ulimit_tree limit = (limit.key, rows_tree (ulimit_rows limit))

abbrev pub network_tree : NetworkUse → List ℕ × Tree
network_tree joined = (joined.key, aliases_tree joined.aliases)

abbrev pub need_tree : Dependency → List ℕ × Tree
need_tree need = (need.key, rows_tree (need_rows need))

-- a value
abbrev pub plain_tree : Value → Tree
plain_tree (Value.Ulimits limits) = Map (map ulimit_tree limits)
plain_tree (Value.Logging logging) = rows_tree (logging_rows logging)
plain_tree (Value.Ports ports) = Seq (map (λ port. rows_tree (port_rows port)) ports)
plain_tree (Value.Mounts mounts) = Seq (map mount_tree mounts)
plain_tree (Value.Files files) = Seq (map (λ file. rows_tree (file_rows file)) files)
plain_tree (Value.Networks networks) = Map (map network_tree networks)
plain_tree (Value.HealthCheck check) = rows_tree (check_rows check)
plain_tree (Value.Dependencies needs) = Map (map need_tree needs)
plain_tree value = leaf_tree value

-- the tree of an attribute
abbrev pub whole : Attribute → Tree
whole attribute = plain_tree attribute.value
