-- Items by their names.
use Rattle.std.specs.Prelude.{ℕ, List, codes, unwrap_or}
use Rattle.attribute_types.specs.Lookups.{text_at}
use Rattle.attribute_types.specs.declared.attribute.Attribute.{Attribute}
use Rattle.tree_base.specs.ByteOrder.{by_key, first_of_each}
use Rattle.typed_project.specs.declared.network.Network.{Network}
use Rattle.typed_project.specs.declared.volume.Volume.{Volume}

-- items in byte order of their names, of several with one name the first alone
abbrev pub by_name : {X : Type 0} → (X → List ℕ) → List X → List X
by_name name items = by_key name (first_of_each name items)

-- the name that the Engine knows something by: its name, which is always there once a project is loaded, or else its key
abbrev pub name_in : List Attribute → List ℕ → List ℕ
name_in attributes key = unwrap_or (text_at attributes (codes "name")) key

-- that of a network
abbrev pub network_name : Network → List ℕ
network_name network = name_in network.attributes network.key

-- that of a volume
abbrev pub volume_name : Volume → List ℕ
volume_name volume = name_in volume.attributes volume.key
