-- The two rows of a network's name with the least ids, and what is wrong with the network by them.
use Rattle.std.specs.Prelude.{ℕ, List, Option, Some, None, if◌then◌else◌, ◌&&◌}
use Rattle.std.specs.Str.{bytes_eq}
use Rattle.engine_types.specs.Labels as the
use Rattle.engine_types.specs.declared.Declared.{Declared}
use Rattle.engine_types.specs.declared.Kind.{Kind}
use Rattle.engine_types.specs.declared.NetRow.{NetRow}
use Rattle.engine_types.specs.declared.NetworkSpec.{NetworkSpec}
use Rattle.engine_types.specs.declared.Purpose.{Purpose}
use Rattle.engine_types.specs.declared.SeenFault.{SeenFault}
use Rattle.run_model.specs.EngineRules.{has_label}
use Rattle.run_model.specs.Observation.{is_up}
use Rattle.tree_base.specs.ByteOrder.{is_before}

-- the row with the least id, with one row more, which stands before those with its id
abbrev pub first_with : NetRow → Option NetRow → Option NetRow
first_with row None = Some row
first_with row (Some first) = if is_before first.id row.id then Some first else Some row

-- the row with the second least id, with one row more
abbrev pub second_with : NetRow → Option NetRow → Option NetRow → Option NetRow
second_with row None second = None
second_with row (Some first) second =
    if is_before first.id row.id then first_with row second else Some first

-- the row with the least id, with one row more where that has the name
abbrev pub first_named : List ℕ → NetRow → Option NetRow → Option NetRow
first_named name row first = if bytes_eq name row.name then first_with row first else first

-- the row with the second least id, with one row more where that has the name
abbrev pub second_named : List ℕ → NetRow → Option NetRow → Option NetRow → Option NetRow
second_named name row first second =
    if bytes_eq name row.name then second_with row first second else second

-- what is wrong with a network that isn't there
abbrev pub missing_fault : Purpose → NetworkSpec → Option SeenFault
missing_fault purpose network =
    if network.external && is_up purpose
    then Some (SeenFault.ExternalMissing Kind.Network network.name) else None

-- what is wrong with a network that is there once
abbrev pub foreign_fault : Declared → NetworkSpec → NetRow → Option SeenFault
foreign_fault declared network row =
    if network.external then None
    else if has_label row.labels the.project_label declared.project then None
    else Some (SeenFault.ForeignNetwork network.name row.id)

-- what is wrong with a network, by the first two rows of its name
abbrev pub fault_by : Declared → Purpose → NetworkSpec → Option NetRow → Option NetRow
    → Option SeenFault
fault_by declared purpose network None second = missing_fault purpose network
fault_by declared purpose network (Some row) None = foreign_fault declared network row
fault_by declared purpose network (Some row) (Some other) =
    Some (SeenFault.NetworkTwice network.name row.id other.id)
