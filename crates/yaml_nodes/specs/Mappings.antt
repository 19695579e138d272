-- The entries of a mapping, and what a merge key adds to them.
use Rattle.std.specs.Prelude.{ℕ, ◌+◌, List, [], ◌∷◌, ◌++◌, Bool, Option, Some, None, Result, Ok, Err, length, is_some, is_none, filter, sum_by, codes, true, false, ◌&&◌, ◌||◌, if◌then◌else◌}
use Rattle.std.specs.Option.{option_and_then, option_map}
use Rattle.std.specs.Str.{encode_utf8_all, bytes_eq}
use Rattle.tree_base.specs.Entries.{value_at, with_entry}
use Rattle.tree_base.specs.Trees.{node_count, text_size}
use Rattle.tree_base.specs.declared.tree.Tree.{Tree, out-Tree}
use Rattle.tree_base.specs.declared.tree.Tree.TheOpen.{Tree-F}
use Rattle.tree_base.specs.declared.tree.Tree.TheVariants.{Map}
use Rattle.yaml_lines.specs.declared.plain.Context.{Context}
use Rattle.yaml_lines.specs.Plain.{is_colon, plain_of}
use Rattle.yaml_lines.specs.Quoted.{quoted_of}
use Rattle.yaml_lines.specs.declared.refusal.YamlFault.TheVariants.{BadScalar, BadMerge, RepeatedKey, Unsupported}
use Rattle.yaml_lines.specs.declared.refusal.YamlRefusal.{YamlRefusal}
use Rattle.yaml_lines.specs.declared.refusal.YamlRefusal.TheVariants.{Bad}
use Rattle.yaml_lines.specs.declared.row.Row.{Row}
use Rattle.yaml_lines.specs.Rows.{text_at}
use Rattle.yaml_nodes.specs.declared.entries.Entries.{Entries}
use Rattle.yaml_nodes.specs.declared.entries.Merge.{Merge}
use Rattle.yaml_nodes.specs.declared.key.Key.{Key}
use Rattle.yaml_nodes.specs.declared.progress.Progress.{Progress}
use Rattle.yaml_nodes.specs.declared.spot.Spot.{Spot}
use Rattle.yaml_nodes.specs.declared.spot.Spot.TheVariants.{Here}
use Rattle.yaml_nodes.specs.Marks.{is_property, is_quote, starts}
use Rattle.yaml_nodes.specs.Progress.{◌>>=◌, bad, more_nodes, more_text, place_of}
use Rattle.yaml_nodes.specs.Properties.{fault_of_key}

-- a key of characters; the plain `<<` is the merge key
abbrev pub key_with : Bool → Progress → Row → ℕ → Option (List ℕ × ℕ) → Result Key YamlRefusal
key_with is_plain p row at None = bad BadScalar p row at
key_with is_plain p row at (Some (cs, n)) =
    Ok (record {
      is_merge = is_plain && bytes_eq (encode_utf8_all cs) (codes "<<");
      text = encode_utf8_all cs;
      len = n;
    })

-- the key that begins at a place: a scalar on one line without properties, no alias and not empty
abbrev pub key_at : Context → Progress → Row → ℕ → Result Key YamlRefusal
key_at context p row at =
    let cs = text_at row at in
    if is_property cs then bad (fault_of_key cs) p row at
    else (if starts 42 cs || is_colon cs then bad Unsupported p row at
    else (if is_quote cs then key_with false p row at (quoted_of cs)
    else key_with true p row at (plain_of context cs)))

-- no entry
abbrev pub no_entries : Entries
no_entries = record { own = []; merge = None }

-- whether a key is there already
abbrev pub is_there : Entries → Key → Bool
is_there entries key =
    if key.is_merge then is_some entries.merge else is_some (value_at entries.own key.text)

-- how many bytes a key counts: the tree has no merge key, which has none
abbrev pub key_size : Key → ℕ
key_size key = if key.is_merge then 0 else length key.text

-- a key at a place that isn't there yet, with its text counted
abbrev pub new_key : Entries → Progress → Row → ℕ → Key → Result Progress YamlRefusal
new_key entries p row at key =
    if is_there entries key then bad RepeatedKey p row at
    else more_text p row (Here at) (key_size key)

-- pairs of a key and a tree
abbrev pub Pairs : Type 0
Pairs = List (List ℕ × Tree)

-- the pairs of a mapping
abbrev pub pairs_of : Tree-F Tree → Option Pairs
pairs_of (Tree-F.Map pairs) = Some pairs
pairs_of tree = None

-- the pairs of mappings, if they all are
abbrev pub all_pairs : List Tree → Option (List Pairs)
all_pairs [] = Some []
all_pairs (tree ∷ trees) =
    option_and_then (λ pairs. option_map (λ more. pairs ∷ more) (all_pairs trees))
    (pairs_of (out-Tree tree))

-- the mappings that the value of a merge key adds: it is one, or a sequence of some
abbrev pub added_maps : Tree-F Tree → Option (List Pairs)
added_maps (Tree-F.Map pairs) = Some (pairs ∷ [])
added_maps (Tree-F.Seq trees) = all_pairs trees
added_maps tree = None

-- the entries with a merge key, which is bad where its value adds none
abbrev pub with_merge : Entries → Progress → Row → Spot → Option (List Pairs) →
    Result Entries YamlRefusal
with_merge entries p row spot None = Err (Bad BadMerge (place_of p row spot))
with_merge entries p row spot (Some maps) =
    Ok (record entries { merge = Some (record { maps = maps; spot = spot }) })

-- the entries with one more, whose key stands at a spot
abbrev pub with_pair : Entries → Progress → Row → Spot → Key → Tree → Result Entries YamlRefusal
with_pair entries p row spot key tree =
    if key.is_merge then with_merge entries p row spot (added_maps (out-Tree tree))
    else Ok (record entries { own = with_entry entries.own key.text tree })

-- the pairs of a mapping whose keys some don't have
abbrev pub new_pairs : Pairs → Pairs → Pairs
new_pairs pairs map = filter (λ pair. is_none (value_at pairs pair.0)) map

-- pairs with one more, where they don't have its key
abbrev pub with_new : Pairs → List ℕ → Tree → Pairs
with_new pairs key tree = if is_none (value_at pairs key) then pairs ++ (key, tree) ∷ [] else pairs

-- the pairs that mappings add to some: each key that isn't there yet, earlier mappings first
abbrev pub added : Pairs → List Pairs → Pairs
added pairs [] = []
added pairs (map ∷ maps) =
    let more = filter (λ pair. is_none (value_at pairs pair.0)) map in
    more ++ added (pairs ++ more) maps

-- how many nodes the trees of pairs have
abbrev pub nodes_of : Pairs → ℕ
nodes_of pairs = sum_by (λ pair. node_count pair.1) pairs

-- how many bytes the keys of pairs have, with those of their trees
abbrev pub bytes_of : Pairs → ℕ
bytes_of pairs = sum_by (λ pair. length pair.0 + text_size pair.1) pairs

-- a mapping of its own entries and of those that its merge key adds, which count once more
abbrev pub merged_with : Progress → Row → Pairs → Option Merge →
    Result (Tree × Progress) YamlRefusal
merged_with p row own None = Ok (Map own, p)
merged_with p row own (Some merge) =
    let more = added own merge.maps in
    more_nodes p row merge.spot (sum_by (λ pair. node_count pair.1) more)
    (sum_by (λ pair. length pair.0 + text_size pair.1) more)
    >>= λ p. Ok (Map (own ++ more), p)

-- the mapping of entries that are read
abbrev pub merged : Progress → Row → Entries → Result (Tree × Progress) YamlRefusal
merged p row entries = merged_with p row entries.own entries.merge
