-- Block collections: lines, by their indentation (YAML 1.2, chapter 8.2).
use Rattle.std.specs.Prelude.{ℕ, zero, suc, ◌+◌, List, [], ◌∷◌, ◌++◌, Bool, true, false, Result, Ok, Err, take, drop, not, ◌&&◌, ◌||◌, if◌then◌else◌}
use Rattle.yaml_groups.specs.declared.line.LogicalLine.{LogicalLine}
use Rattle.tree_base.specs.declared.tree.Tree.{Tree}
use Rattle.tree_base.specs.declared.tree.Tree.TheVariants.{Seq}
use Rattle.yaml_lines.specs.Blanks.{blanks, is_rest_blank}
use Rattle.yaml_lines.specs.declared.plain.Context.TheVariants.{Block}
use Rattle.yaml_lines.specs.declared.refusal.YamlFault.TheVariants.{BadScalar}
use Rattle.yaml_lines.specs.declared.refusal.YamlRefusal.{YamlRefusal}
use Rattle.yaml_lines.specs.declared.refusal.YamlRefusal.TheVariants.{TooDeep}
use Rattle.yaml_lines.specs.declared.row.Row.{Row}
use Rattle.yaml_lines.specs.Rows.{place_in, text_at}
use Rattle.yaml_nodes.specs.declared.entries.Entries.{Entries}
use Rattle.yaml_nodes.specs.declared.progress.Progress.{Progress}
use Rattle.yaml_nodes.specs.declared.properties.Properties.{Properties}
use Rattle.yaml_nodes.specs.declared.spot.Spot.TheVariants.{Before}
use Rattle.yaml_nodes.specs.Mappings.{key_at, merged, new_key, no_entries, with_pair}
use Rattle.yaml_nodes.specs.Marks.{before_colon, is_colon_of, is_item, is_key_behind, is_property, properties_len}
use Rattle.yaml_nodes.specs.Progress.{◌>>=◌, bad, one_node}
use Rattle.yaml_nodes.specs.Properties.{carried, finished, no_properties, properties_from, unspelled}
use Rattle.yaml_nodes.specs.Scalars.{nothing}
use Rattle.yaml_tree.specs.Inline.{Owned, alone, goes_on_at, inline_alone}
use Rattle.yaml_tree.specs.Parts.{PartReader, begins_entry, begins_item, begun, block, first_indent, is_entry_at, is_item_at, value_len}

-- a reader of the node of an owner, beside the properties before it: it begins at a place of the first line; without lines nothing stands there
abbrev pub Reader : Type 0
Reader = Owned → Properties → Progress → ℕ → List LogicalLine → Result (Tree × Progress) YamlRefusal

-- a reader of the lines below an owner, from their first character on
abbrev pub below : Reader → Owned → Properties → Progress → List LogicalLine → Result (Tree × Progress) YamlRefusal
below read owner found p lines = read owner found p (first_indent lines) lines

-- what an item's dash at a column owns: what stands behind it on its line, which begins a block of its own there, or the deeper lines
abbrev pub item_node : ℕ → Reader → Progress → LogicalLine → List LogicalLine → Result (Tree × Progress) YamlRefusal
item_node column read p line more =
    let owner : Owned = record { row = line.row; column = column; is_key = false } in
    let rest = text_at line.row (column + 1) in
    if is_rest_blank false rest then below read owner no_properties p more
    else read owner no_properties p (column + 1 + blanks rest) (line ∷ more)

-- an item of a sequence at a column
abbrev pub block_item : ℕ → Reader → PartReader (List Tree)
block_item column read (items, p) line more = item_node column read p line more >>= λ got. Ok (items ++ got.0 ∷ [], got.1)

-- a block sequence at the place from which its first line is read
abbrev pub block_sequence : ℕ → Reader → Properties → Progress → ℕ → LogicalLine → List LogicalLine → Result (Tree × Progress) YamlRefusal
block_sequence levels read found p at line more =
    one_node levels p line.row at 0 >>= λ p.
    block (begins_item at) (is_item_at at) (block_item at read) ([], p) line more >>= λ got. Ok (finished found (Seq got.0, got.1))

-- a value whose properties end at a place of the key's line: behind them on the line, or in the lines below
abbrev pub value_behind : ℕ → Reader → Owned → Properties → Progress → LogicalLine → ℕ → List LogicalLine → Result (Tree × Progress) YamlRefusal
value_behind levels read owner found p line at more =
    if is_rest_blank true (text_at line.row at) then below read owner (carried p line.row found) p more
    else inline_alone levels (owner.column + 1) owner.column found p line at more

-- the value of an entry, from behind its colon on: on the key's line, or in the lines below. Its properties stand on the key's line
abbrev pub block_value : ℕ → Reader → Owned → Progress → LogicalLine → ℕ → List LogicalLine → Result (Tree × Progress) YamlRefusal
block_value levels read owner p line behind more =
    let start = behind + blanks (text_at line.row behind) in
    properties_from true p line.row start no_properties 0 (text_at line.row start) >>= λ found.
    value_behind levels read owner found p line (start + properties_len 0 (text_at line.row start)) more

-- more than properties stands behind a colon on its line
abbrev pub stands_behind : Row → ℕ → Bool
stands_behind row behind =
    let start = behind + blanks (text_at row behind) in
    not (is_rest_blank true (text_at row (start + properties_len 0 (text_at row start))))

-- an entry of a mapping at a column: a key and its colon on one line, then its value, with which a merge key is asked; an item behind that is at a wrong column
abbrev pub block_entry : ℕ → ℕ → Reader → PartReader Entries
block_entry column levels read (entries, p) line more =
    let colon = column + before_colon Block (text_at line.row column) in
    let len = value_len column (stands_behind line.row (colon + 1)) more in
    key_at Block p line.row column >>= λ key.
    if is_colon_of Block (text_at line.row column) (text_at line.row colon)
    then (new_key entries p line.row column key >>= λ p.
    block_value levels read (record { row = line.row; column = column; is_key = true }) p line (colon + 1) (take len more) >>= λ got.
    with_pair entries got.1 line.row (Before (place_in got.1.file line.row column)) key got.0 >>= λ entries.
    alone false 0 got.1 (drop len more) >>= λ p. Ok (entries, p))
    else bad BadScalar p line.row column

-- a block mapping at the place from which its first line is read; its values have so many levels left
abbrev pub block_mapping : ℕ → ℕ → Reader → Properties → Progress → ℕ → LogicalLine → List LogicalLine → Result (Tree × Progress) YamlRefusal
block_mapping levels under read found p at line more =
    one_node levels p line.row at 0 >>= λ p.
    block (begins_entry at) (is_entry_at at) (block_entry at under read) (no_entries, p) line more >>= λ got.
    merged got.1 line.row got.0 >>= λ map. Ok (finished found map)

-- a node's own properties stand here: no key follows them on the line, whose they would be
abbrev pub has_own_properties : List ℕ → Bool
has_own_properties cs = is_property cs && not (is_key_behind Block cs)

-- a node without properties of its own on its line: a block, if it begins one, else a node on one line. A mapping begins with its first key, also with one that is refused when it is read: behind properties, empty or an alias
abbrev pub block_or_inline : ℕ → ℕ → Reader → Owned → Properties → Progress → ℕ → LogicalLine → List LogicalLine → Result (Tree × Progress) YamlRefusal
block_or_inline levels under read owner found p at line more =
    let cs = text_at line.row at in
    if is_item cs then (unspelled p line.row found >>= λ found. block_sequence levels read found p at line more)
    else (if is_key_behind Block cs then (unspelled p line.row found >>= λ found. block_mapping levels under read found p at line more)
    else inline_alone levels (goes_on_at owner line at) owner.column found p line at more)

-- a node at so many levels, whose nodes are read by a reader with so many: its properties on a line belong to what stands behind them on it, and if nothing does to the lines below
abbrev pub node_with : ℕ → ℕ → Reader → Reader
node_with levels under read owner found p at [] = nothing levels found p owner.row owner.column
node_with levels under read owner found p at (line ∷ more) =
    let cs = text_at line.row at in
    let behind = at + properties_len 0 cs in
    begun p line >>= λ p.
    if has_own_properties cs
    then (properties_from owner.is_key p line.row at found 0 cs >>= λ found.
    if is_rest_blank true (text_at line.row behind) then node_with levels under read owner (carried p line.row found) p (first_indent more) more
    else inline_alone levels (goes_on_at owner line at) owner.column found p line behind more)
    else block_or_inline levels under read owner found p at line more

-- no node may stand where no level is left
abbrev pub no_level : Reader
no_level owner found p at lines = Err (TooDeep (place_in p.file owner.row owner.column))

-- a node, with so many levels left for it
abbrev pub node : ℕ → Reader
node zero owner found p at lines = node_with 0 0 no_level owner found p at lines
node (suc levels) owner found p at lines = node_with (suc levels) levels (node levels) owner found p at lines
