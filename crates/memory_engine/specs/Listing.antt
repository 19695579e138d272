-- How an Engine in memory lists the containers of a project.
use Rattle.std.specs.Prelude.{ℕ, List, [], ◌∷◌, Option, filter, fold, map}
use Rattle.std.specs.Ordering.{nat_cmp}
use Rattle.std.specs.declared.cmp.Ordering.{Ordering}
use Rattle.std.specs.Cmp.Lexicographic.{slice_cmp}
use Rattle.std.specs.List.{filter_map}
use Rattle.std.specs.Option.{option_map}
use Rattle.engine_types.specs.declared.ContainerRow.{ContainerRow}
use Rattle.engine_types.specs.declared.Engine.{Engine}
use Rattle.engine_types.specs.declared.Listed.{Listed}
use Rattle.run_model.specs.EngineRules.{is_of_project, network_at}

-- a name before the first of others, as that one, or among the later ones, by how the two compare
abbrev pub put_at : Ordering → List ℕ → List ℕ → List (List ℕ) → List (List ℕ) → List (List ℕ)
put_at Ordering.Less name first rest later = name ∷ first ∷ rest
put_at Ordering.Equal name first rest later = first ∷ rest
put_at Ordering.Greater name first rest later = first ∷ later

-- names in byte order with one more, where it isn't among them
abbrev pub with_name : List (List ℕ) → List ℕ → List (List ℕ)
with_name [] name = name ∷ []
with_name (first ∷ rest) name = put_at (slice_cmp nat_cmp name first) name first rest (with_name rest name)

-- the name of the network with an id
abbrev pub network_name : Engine → List ℕ → Option (List ℕ)
network_name engine id = option_map (λ row. row.name) (network_at engine id)

-- the names of networks by their ids, in byte order and each once
abbrev pub network_names : Engine → List (List ℕ) → List (List ℕ)
network_names engine ids = fold with_name [] (filter_map (network_name engine) ids)

-- a container as a listing shows it
abbrev pub listed_row : Engine → ContainerRow → Listed
listed_row engine row = record {
  id = row.id;
  name = row.name;
  image_id = row.image_id;
  labels = row.labels;
  state = row.report.state;
  networks = network_names engine row.networks;
}

-- the containers of a project, in the Engine's order
abbrev pub listing : Engine → List ℕ → List Listed
listing engine project = map (listed_row engine) (filter (λ row. is_of_project project row.labels) engine.containers)
