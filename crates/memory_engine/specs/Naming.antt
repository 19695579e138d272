-- What an Engine in memory knows of the names that its containers were given.
use Rattle.std.specs.Prelude.{ℕ, Bool, true, List, Option, Some, None, is_some}
use Rattle.std.specs.List.{list_all}
use Rattle.std.specs.Option.{option_map_or}
use Rattle.engine_types.specs.declared.ContainerRow.{ContainerRow}
use Rattle.engine_types.specs.declared.Request.{Request}
use Rattle.tree_base.specs.Entries.{value_at}
use Rattle.memory_engine.specs.declared.names.Names.{Names}

-- whether a container may have a name: it was given before, or the names aren't known
abbrev pub may_be_taken : Names → List ℕ → Bool
may_be_taken names name = option_map_or (λ given. is_some (value_at given name)) names.given true

-- whether each container has a name that may be taken
abbrev pub are_taken : Names → List ContainerRow → Bool
are_taken names rows = list_all (λ row. may_be_taken names row.name) rows

-- the name that a request gives to a container: that of POST /containers/create
abbrev pub name_given : Request → Option (List ℕ)
name_given (Request.Create name spec) = Some name
name_given _ = None
