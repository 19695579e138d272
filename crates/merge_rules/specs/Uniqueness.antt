-- Which entries of a list are one (Compose Specification, "Merge", unique resources).
use Rattle.std.specs.Prelude.{ℕ, List, [], ◌∷◌, ◌++◌, Bool, true, false, not, ◌&&◌, map, Option, Some, None, unwrap_or, position, codes, nat_eq, if◌then◌else◌}
use Rattle.std.specs.List.{starts_with}
use Rattle.std.specs.Option.{option_map}
use Rattle.tree_base.specs.Entries.{value_at}
use Rattle.tree_base.specs.declared.Tree.{Tree, out-Tree, Null, Scalar}
use Rattle.tree_base.specs.declared.Tree.TheOpen.{Tree-F}
use Rattle.merge_rules.specs.Sameness.{same, same_items}
use Rattle.merge_tables.specs.declared.rules.EntryKind.{EntryKind}
use Rattle.merge_tables.specs.declared.rules.EntryKind.TheVariants.{Port, Mount, Secret, Config}
use Rattle.merge_tables.specs.Parts.{field, text_in}

-- the text of a field that is a scalar
abbrev pub text_at : List (List ℕ × Tree) → List ℕ → Option (List ℕ)
text_at entries name = text_in (out-Tree (field entries name))

-- a protocol, which is tcp where none is given
abbrev pub protocol_in : Tree-F Tree → Tree → Tree
protocol_in Tree-F.Null tree = Scalar (codes "tcp")
protocol_in other tree = tree

-- the protocol of a port
abbrev pub protocol_of : List (List ℕ × Tree) → Tree
protocol_of entries = let protocol = field entries (codes "protocol") in protocol_in (out-Tree protocol) protocol

-- how a port is bound: the address of the host, what it is published as, and the protocol
abbrev pub binding : List (List ℕ × Tree) → List Tree
binding entries = field entries (codes "host_ip") ∷ field entries (codes "published") ∷ protocol_of entries ∷ []

-- a port is known by its target and its binding
abbrev pub port_key : List (List ℕ × Tree) → Option (List Tree)
port_key entries = option_map (λ target. Scalar target ∷ binding entries) (text_at entries (codes "target"))

-- whether a path begins at no root
abbrev pub is_relative : List ℕ → Bool
is_relative target = not (starts_with nat_eq target (codes "/"))

-- a name in a folder, or as it is
abbrev pub placed : List ℕ → Bool → List ℕ → List ℕ
placed folder below name = if below then folder ++ name else name

-- where a file is seen in the container: at its target, and without one in a folder by the name of its source. Relative targets may be in the folder too
abbrev pub seen_at : List ℕ → Bool → Tree-F Tree → Tree-F Tree → Option (List ℕ)
seen_at folder joins (Tree-F.Scalar target) source = Some (placed folder (joins && is_relative target) target)
seen_at folder joins Tree-F.Null source = option_map (placed folder true) (text_in source)
seen_at folder joins target source = None

-- where the file of an entry is seen
abbrev pub seen : List ℕ → Bool → List (List ℕ × Tree) → Option (List ℕ)
seen folder joins entries = seen_at folder joins (out-Tree (field entries (codes "target"))) (out-Tree (field entries (codes "source")))

-- a key of one text
abbrev pub alone : Option (List ℕ) → Option (List Tree)
alone text = option_map (λ text. Scalar text ∷ []) text

-- what an entry is known by among those of its list, by its fields: mounts, secrets and configs by their targets
abbrev pub key_by : EntryKind → List (List ℕ × Tree) → Option (List Tree)
key_by Port entries = port_key entries
key_by Mount entries = alone (text_at entries (codes "target"))
key_by Secret entries = alone (seen (codes "/run/secrets/") true entries)
key_by Config entries = alone (seen (codes "/") false entries)

-- what an item is known by: one that is no mapping by nothing
abbrev pub key_in : EntryKind → Tree-F Tree → Option (List Tree)
key_in kind (Tree-F.Map entries) = key_by kind entries
key_in kind other = None

-- whether two keys are there and the same
abbrev pub same_keys : Option (List Tree) → Option (List Tree) → Bool
same_keys (Some key) (Some other) = same_items (map same key) other
same_keys key other = false

-- whether two items are one
abbrev pub are_one : EntryKind → Tree → Tree → Bool
are_one kind item other = same_keys (key_in kind (out-Tree item)) (key_in kind (out-Tree other))

-- the place of the first of some items that is one with an item
abbrev pub place_of : EntryKind → Tree → List Tree → Option ℕ
place_of kind item items = position (are_one kind item) items
