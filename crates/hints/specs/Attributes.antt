-- Which attribute may be meant by a name that is none.
use Rattle.std.specs.Prelude.{ℕ, Bool, nat_lt, if◌then◌else◌, List, [], ◌∷◌, ◌++◌, length, map, Option, Some, None, codes}
use Rattle.std.specs.Option.{option_map}
use Rattle.std.specs.Str.{bytes_eq}
use Rattle.attribute_types.specs.Tables.{Lines, host_lines, joining_lines, network_lines, process_lines, resource_lines, running_lines, volume_lines}
use Rattle.hints.specs.Near.{meant_words, near}
use Rattle.tree_base.specs.declared.tree.Step.{Step}
use Rattle.tree_base.specs.declared.tree.Step.TheVariants.{Key}

-- the top-level elements (Compose Specification, "Compose file")
abbrev pub element_names : List (List ℕ)
element_names =
    codes "version" ∷ codes "name" ∷ codes "include" ∷ codes "services" ∷ codes "networks" ∷ codes "volumes" ∷ codes "configs"
    ∷ codes "secrets" ∷ []

-- the names in a table
abbrev pub names_of : {F : Type 0} → Lines F → List (List ℕ)
names_of lines = map (λ line. line.0) lines

-- the attributes of services (Compose Specification, "Services")
abbrev pub service_names : List (List ℕ)
service_names =
    names_of process_lines ++ names_of host_lines ++ names_of resource_lines ++ names_of joining_lines
    ++ names_of running_lines

-- which known name may be meant by a key, which isn't longer than 64 bytes
abbrev pub key_hint : List ℕ → List (List ℕ) → Option (List ℕ)
key_hint key known = if nat_lt 64 (length key) then None else option_map (meant_words key) (near key known)

-- which attribute of a service, a network or a volume may be meant by a key of what stands in a section
abbrev pub item_hint : List ℕ → List ℕ → Option (List ℕ)
item_hint section key =
    if bytes_eq section (codes "services") then key_hint key service_names
    else (if bytes_eq section (codes "networks") then key_hint key (names_of network_lines)
    else (if bytes_eq section (codes "volumes") then key_hint key (names_of volume_lines) else None))

-- which attribute may be meant where a path ends with the name of none: of what stands in a section, or at the top of a file
abbrev pub attribute_hint : List Step → Option (List ℕ)
attribute_hint (Key key ∷ []) = key_hint key element_names
attribute_hint (Key section ∷ Key item ∷ Key key ∷ []) = item_hint section key
attribute_hint _ = None
