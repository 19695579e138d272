-- What is said of volumes that a project declares and somebody else made.
use Rattle.std.specs.Prelude.{ℕ, Bool, false, not, ◌&&◌, ◌==◌, if◌then◌else◌, List, [], ◌++◌, flat_map, is_some, length, Option, Some, None, codes}
use Rattle.std.specs.Option.{option_map_or}
use Rattle.std.specs.Str.{bytes_eq}
use Rattle.engine_types.specs.Labels as the
use Rattle.response_rules.specs.Json.{given, json_of, listed, text_at}
use Rattle.run_model.specs.Shown.{shown}
use Rattle.serde_json.specs.Data.{Data}
use Rattle.serde_json.specs.Find.{as_array, get}
use Rattle.tree_base.specs.Entries.{value_at}

-- the names of the volumes that a project declares, as the keys of a map
abbrev pub Declared : Type 0
Declared = List (List ℕ × Bool)

-- the project that the labels of a volume name (Engine API, "VolumeList")
abbrev pub project_of : Data → Option (List ℕ)
project_of row = given (get (codes "Labels") row) (text_at the.project_label)

-- a volume has the label of a project
abbrev pub is_own : List ℕ → Data → Bool
is_own project row = option_map_or (bytes_eq project) (project_of row) false

-- the volume with a name is declared, and not of the project
abbrev pub is_foreign : List ℕ → Declared → List ℕ → Data → Bool
is_foreign project declared name row = is_some (value_at declared name) && not (is_own project row)

-- a name behind a space, where it is said
abbrev pub said_if : Bool → List ℕ → List ℕ
said_if is_said name = if is_said then codes " " ++ shown name else []

-- the name of a volume that is declared and not of the project, behind a space
abbrev pub foreign_name : List ℕ → Declared → Data → List ℕ
foreign_name project declared row =
    option_map_or (λ name. said_if (is_foreign project declared name row) name)
    (text_at (codes "Name") row) []

-- the names of all of these
abbrev pub foreign_names : List ℕ → Declared → List Data → List ℕ
foreign_names project declared rows = flat_map (foreign_name project declared) rows

-- the same of what stands at `Volumes`
abbrev pub foreign_among : List ℕ → Declared → Data → List ℕ
foreign_among project declared d =
    option_map_or (λ rows. foreign_names project declared (listed rows)) (as_array d) []

-- the same of a listing
abbrev pub foreign_in : List ℕ → Declared → Data → List ℕ
foreign_in project declared d =
    option_map_or (foreign_among project declared) (get (codes "Volumes") d) []

-- what is said of names, each behind a space, where there are any
abbrev pub made_note : List ℕ → Option (List ℕ)
made_note names =
    if length names == 0 then None
    else Some (codes "not made by the project, and removed by down --volumes:" ++ names)

-- what is said of the volumes of a project, by the body of a listing
abbrev pub volume_note : List ℕ → Declared → List ℕ → Option (List ℕ)
volume_note project declared body =
    made_note (option_map_or (foreign_in project declared) (json_of body) [])
