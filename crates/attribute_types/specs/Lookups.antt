-- The values of attributes by their names, each of the form that its table says.
use Rattle.std.specs.Prelude.{ℕ, ℤ, Bool, List, Option, Some, None}
use Rattle.std.specs.Option.{option_and_then}
use Rattle.attribute_types.specs.Values.{value_at}
use Rattle.attribute_types.specs.declared.attribute.Attribute.{Attribute}
use Rattle.attribute_types.specs.declared.attribute.Value.{Value}
use Rattle.attribute_types.specs.declared.rows.Dependency.{Dependency}
use Rattle.attribute_types.specs.declared.rows.FileUse.{FileUse}
use Rattle.attribute_types.specs.declared.rows.HealthCheck.{HealthCheck}
use Rattle.attribute_types.specs.declared.rows.Logging.{Logging}
use Rattle.attribute_types.specs.declared.rows.NetworkUse.{NetworkUse}
use Rattle.attribute_types.specs.declared.rows.Ulimit.{Ulimit}
use Rattle.short_forms.specs.declared.mounts.Mount.{Mount}
use Rattle.short_forms.specs.declared.ports.Port.{Port}
use Rattle.tree_base.specs.declared.Tree.{Tree}

-- the text of a value
abbrev pub as_text : Value → Option (List ℕ)
as_text (Value.Text text) = Some text
as_text value = None

-- the text under a name
abbrev pub text_at : List Attribute → List ℕ → Option (List ℕ)
text_at attributes name = option_and_then as_text (value_at attributes name)

-- the bool of a value
abbrev pub as_bool : Value → Option Bool
as_bool (Value.Bool given) = Some given
as_bool value = None

-- the bool under a name
abbrev pub bool_at : List Attribute → List ℕ → Option Bool
bool_at attributes name = option_and_then as_bool (value_at attributes name)

-- the number of a value: a count, microseconds, bytes or billionths, by its form
abbrev pub as_number : Value → Option ℕ
as_number (Value.Num number) = Some number
as_number (Value.Duration micros) = Some micros
as_number (Value.Size bytes) = Some bytes
as_number (Value.Decimal billionths) = Some billionths
as_number value = None

-- the number under a name
abbrev pub number_at : List Attribute → List ℕ → Option ℕ
number_at attributes name = option_and_then as_number (value_at attributes name)

-- the port of a value
abbrev pub as_port : Value → Option ℕ
as_port (Value.Port port) = Some port
as_port value = None

-- the port under a name
abbrev pub port_at : List Attribute → List ℕ → Option ℕ
port_at attributes name = option_and_then as_port (value_at attributes name)

-- the number of a value that may be -1
abbrev pub as_int : Value → Option ℤ
as_int (Value.Int number) = Some number
as_int value = None

-- the number under a name, which may be -1
abbrev pub int_at : List Attribute → List ℕ → Option ℤ
int_at attributes name = option_and_then as_int (value_at attributes name)

-- the texts of a value
abbrev pub as_texts : Value → Option (List (List ℕ))
as_texts (Value.List texts) = Some texts
as_texts (Value.Argv texts) = Some texts
as_texts value = None

-- the texts under a name
abbrev pub texts_at : List Attribute → List ℕ → Option (List (List ℕ))
texts_at attributes name = option_and_then as_texts (value_at attributes name)

-- the pairs of a value
abbrev pub as_pairs : Value → Option (List (List ℕ × Option (List ℕ)))
as_pairs (Value.Pairs pairs) = Some pairs
as_pairs value = None

-- the pairs under a name
abbrev pub pairs_at : List Attribute → List ℕ → Option (List (List ℕ × Option (List ℕ)))
pairs_at attributes name = option_and_then as_pairs (value_at attributes name)

-- the mapping that is kept of a value
abbrev pub as_kept : Value → Option Tree
as_kept (Value.Kept tree) = Some tree
as_kept value = None

-- the mapping that is kept under a name
abbrev pub kept_at : List Attribute → List ℕ → Option Tree
kept_at attributes name = option_and_then as_kept (value_at attributes name)

-- limits of a value
abbrev pub as_ulimits : Value → Option (List Ulimit)
as_ulimits (Value.Ulimits limits) = Some limits
as_ulimits value = None

-- limits under a name
abbrev pub ulimits_at : List Attribute → List ℕ → Option (List Ulimit)
ulimits_at attributes name = option_and_then as_ulimits (value_at attributes name)

-- where output goes of a value
abbrev pub as_logging : Value → Option Logging
as_logging (Value.Logging logging) = Some logging
as_logging value = None

-- where output goes under a name
abbrev pub logging_at : List Attribute → List ℕ → Option Logging
logging_at attributes name = option_and_then as_logging (value_at attributes name)

-- ports of a value
abbrev pub as_ports : Value → Option (List Port)
as_ports (Value.Ports ports) = Some ports
as_ports value = None

-- ports under a name
abbrev pub ports_at : List Attribute → List ℕ → Option (List Port)
ports_at attributes name = option_and_then as_ports (value_at attributes name)

-- mounts of a value
abbrev pub as_mounts : Value → Option (List Mount)
as_mounts (Value.Mounts mounts) = Some mounts
as_mounts value = None

-- mounts under a name
abbrev pub mounts_at : List Attribute → List ℕ → Option (List Mount)
mounts_at attributes name = option_and_then as_mounts (value_at attributes name)

-- uses of secrets or configs of a value
abbrev pub as_files : Value → Option (List FileUse)
as_files (Value.Files files) = Some files
as_files value = None

-- uses of secrets or configs under a name
abbrev pub files_at : List Attribute → List ℕ → Option (List FileUse)
files_at attributes name = option_and_then as_files (value_at attributes name)

-- networks that are joined of a value
abbrev pub as_networks : Value → Option (List NetworkUse)
as_networks (Value.Networks networks) = Some networks
as_networks value = None

-- networks that are joined under a name
abbrev pub networks_at : List Attribute → List ℕ → Option (List NetworkUse)
networks_at attributes name = option_and_then as_networks (value_at attributes name)

-- a health check of a value
abbrev pub as_health : Value → Option HealthCheck
as_health (Value.HealthCheck check) = Some check
as_health value = None

-- a health check under a name
abbrev pub health_at : List Attribute → List ℕ → Option HealthCheck
health_at attributes name = option_and_then as_health (value_at attributes name)

-- dependencies of a value
abbrev pub as_dependencies : Value → Option (List Dependency)
as_dependencies (Value.Dependencies needs) = Some needs
as_dependencies value = None

-- dependencies under a name
abbrev pub dependencies_at : List Attribute → List ℕ → Option (List Dependency)
dependencies_at attributes name = option_and_then as_dependencies (value_at attributes name)
