-- What is said of orphans that an `up` lists and leaves.
use Rattle.std.specs.Prelude.{ℕ, Bool, true, false, not, ◌&&◌, if◌then◌else◌, List, [], ◌++◌, flat_map, is_some, Option, None, codes}
use Rattle.std.specs.Option.{option_map_or}
use Rattle.compose_words.specs.declared.Command.{Command}
use Rattle.engine_types.specs.Labels as the
use Rattle.engine_types.specs.Labels.{label}
use Rattle.engine_types.specs.declared.Exchange.{Exchange}
use Rattle.engine_types.specs.declared.Listed.{Listed}
use Rattle.notes.specs.Containers.{note_on, rows_told}
use Rattle.run_model.specs.EngineRules.{is_of_project}
use Rattle.run_model.specs.Shown.{shown}
use Rattle.tree_base.specs.Entries.{value_at}
use Rattle.tree_base.specs.declared.Tree.{Tree}
use Rattle.tree_base.specs.declared.Var.{Var}

-- the services of a project's files, under their keys
abbrev pub Services : Type 0
Services = List (List ℕ × Tree)

-- the service label names one of these services
abbrev pub has_service : Services → List Var → Bool
has_service services labels =
    option_map_or (λ service. is_some (value_at services service))
    (label labels the.service_label) false

-- labels are those of a container of the project whose service is none of these
abbrev pub is_orphan : List ℕ → Services → List Var → Bool
is_orphan project services labels =
    is_of_project project labels && not (has_service services labels)

-- the name of a container that was listed, behind a space, where it is an orphan
abbrev pub orphan_name : List ℕ → Services → Listed → List ℕ
orphan_name project services row =
    if is_orphan project services row.labels then codes " " ++ shown row.name else []

-- the names of all orphans that exchanges list
abbrev pub orphan_names : List ℕ → Services → List Exchange → List ℕ
orphan_names project services exchanges =
    flat_map (λ exchange. flat_map (orphan_name project services) (rows_told exchange.outcome))
    exchanges

-- what is said of a command's run: an `up` that takes no orphans along leaves those that it lists
abbrev pub orphan_note :
    Command → List ℕ → Services → List Exchange → Option (List ℕ)
orphan_note (Command.Up true wait wait_seconds scale) project services exchanges = None
orphan_note (Command.Up false wait wait_seconds scale) project services exchanges =
    note_on (orphan_names project services exchanges)
orphan_note command project services exchanges = None
