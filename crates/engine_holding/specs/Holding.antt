-- What an Engine in memory can hold from its beginning.
use Rattle.std.specs.Prelude.{ℕ, ◌==◌, Bool, true, not, ◌&&◌, List, [], ◌∷◌, length, is_some}
use Rattle.std.specs.List.{list_all, list_any}
use Rattle.std.specs.Str.{bytes_eq}
use Rattle.engine_types.specs.declared.Engine.{Engine}
use Rattle.run_model.specs.EngineRules.{network_at}

-- whether a key tells all rows apart
abbrev pub are_apart : {X : Type 0} → (X → List ℕ) → List X → Bool
are_apart key [] = true
are_apart key (x ∷ xs) = not (list_any (λ y. bytes_eq (key x) (key y)) xs) && are_apart key xs

-- whether ids and names tell containers, networks, volumes and images apart
abbrev pub are_told_apart : Engine → Bool
are_told_apart engine =
    are_apart (λ row. row.id) engine.containers
    && are_apart (λ row. row.name) engine.containers
    && are_apart (λ row. row.id) engine.networks
    && are_apart (λ name. name) engine.volumes
    && are_apart (λ row. row.name) engine.images

-- whether these networks are there
abbrev pub are_networks : Engine → List (List ℕ) → Bool
are_networks engine ids = list_all (λ id. is_some (network_at engine id)) ids

-- whether the networks of each container are there
abbrev pub are_attached : Engine → Bool
are_attached engine = list_all (λ row. are_networks engine row.networks) engine.containers

-- whether an id hasn't the length of those that the Engine gives
abbrev pub is_foreign : List ℕ → Bool
is_foreign id = not (length id == 64)

-- whether no id has it
abbrev pub are_foreign : Engine → Bool
are_foreign engine = list_all (λ row. is_foreign row.id) engine.containers && list_all (λ row. is_foreign row.id) engine.networks

-- whether an Engine in memory can hold this from its beginning
abbrev pub can_be_held : Engine → Bool
can_be_held engine = are_told_apart engine && are_attached engine && are_foreign engine
