-- Blocks are read alike in lines without the numbers of their rows.
use Rattle.std.proofs.Common.{◌≡◌, ℕ, zero, suc, ◌+◌, List, [], ◌∷◌, ◌++◌, Bool, true, false, take, drop, refl, sym, ap, subst}
use Rattle.std.proofs.lemmas.List.{drop-map, take-map}
use Rattle.yaml_groups.specs.declared.line.LogicalLine.{LogicalLine}
use Rattle.yaml_groups.specs.Grouped.{begins_block, begins_flow}
use Rattle.tree_base.specs.declared.tree.Tree.{Tree}
use Rattle.tree_base.specs.declared.tree.Tree.TheVariants.{Seq}
use Rattle.yaml_lines.specs.Blanks.{blanks, is_rest_blank}
use Rattle.yaml_lines.specs.declared.plain.Context.TheVariants.{Block}
use Rattle.yaml_lines.specs.declared.refusal.YamlFault.TheVariants.{BadScalar}
use Rattle.yaml_lines.specs.declared.refusal.YamlRefusal.TheVariants.{TooDeep}
use Rattle.yaml_lines.specs.Rows.{place_in, text_at}
use Rattle.yaml_nodes.specs.declared.progress.Progress.{Progress}
use Rattle.yaml_nodes.specs.declared.properties.Properties.{Properties}
use Rattle.yaml_nodes.specs.declared.spot.Spot.TheVariants.{Before}
use Rattle.yaml_nodes.specs.Mappings.{no_entries}
use Rattle.yaml_nodes.specs.Marks.{before_colon, is_colon_of, is_item, is_key_behind, properties_len}
use Rattle.yaml_nodes.specs.Properties.{carried, no_properties}
use Rattle.yaml_tree.specs.Blocks.{Reader, below, block_entry, block_item, block_mapping, block_or_inline, block_sequence, block_value, has_own_properties, item_node, no_level, node, node_with, stands_behind, value_behind}
use Rattle.yaml_tree.specs.Inline.{Owned, alone, goes_on_at, inline, inline_alone, is_scalar}
use Rattle.yaml_tree.specs.Parts.{begins_entry, begins_item, first_indent, is_entry_at, is_item_at, value_len}
use Rattle.laws_yaml.proofs.Alike.{Same, chained, either, gives, refuses, followed, followed_beside}
use Rattle.laws_yaml.proofs.Flows.{flow_same}
use Rattle.laws_yaml.proofs.LineMappings.{bare_entries, key_same, merged_same, new_key_same, with_pair_same}
use Rattle.laws_yaml.proofs.LineNodes.{block_scalar_same, line_end_same, nothing_same, word_same}
use Rattle.laws_yaml.proofs.LineParts.{AlikeParts, bare_line, bare_lines, begun_same, block_same, first_bare, value_len_bare}
use Rattle.laws_yaml.proofs.Places.{bad_same, bare, one_same, place_same}
use Rattle.laws_yaml.proofs.Properties.{bare_found, carried_same, finished_same, properties_same, unspelled_same}

inline_same : (f g : Properties) → bare_found f ≡ bare_found g → (levels column : ℕ) (p : Progress) (line : LogicalLine) (at : ℕ) → Same (inline levels column f p line at) (inline levels column g p (bare_line line) at)
inline_same f g h levels column p line at =
    let cs = text_at line.row at in
    either (begins_flow cs) (flow_same levels f g p line.row at h)
    (either (begins_block cs) (block_scalar_same f g h levels p line.row at column line.content) (word_same f g h Block levels p line.row at))

alone_same : (scalar : Bool) (indent : ℕ) (p : Progress) (lines : List LogicalLine) → Same (alone scalar indent p lines) (alone scalar indent p (bare_lines lines))
alone_same scalar indent p [] = gives refl
alone_same scalar indent p (line ∷ lines) = followed (begun_same p line) (λ q. bad_same _ q line.row line.row.indent)

inline_alone_same : (f g : Properties) → bare_found f ≡ bare_found g → (levels indent column : ℕ) (p : Progress) (line : LogicalLine) (at : ℕ) (more : List LogicalLine)
    → Same (inline_alone levels indent column f p line at more) (inline_alone levels indent column g p (bare_line line) at (bare_lines more))
inline_alone_same f g h levels indent column p line at more =
    followed (inline_same f g h levels column p line at)
    (λ got. followed (line_end_same got.1 line.row got.0.1)
    (λ end. followed (alone_same (is_scalar (text_at line.row at)) indent got.1 more) (λ q. gives refl)))

-- an owner without the number of its row
abbrev pub bare_owner : Owned → Owned
bare_owner owner = record owner { row = bare owner.row }

-- what a reader reads is alike without the numbers of rows
abbrev pub AlikeBlocks : Reader → Type 0
AlikeBlocks read = (owner : Owned) (f g : Properties) (p : Progress) (at : ℕ) (lines : List LogicalLine) → bare_found f ≡ bare_found g → Same (read owner f p at lines) (read (bare_owner owner) g p at (bare_lines lines))

module _ (read : Reader) (same : AlikeBlocks read) where
  pub below_same : (owner : Owned) (f g : Properties) (p : Progress) (lines : List LogicalLine) → bare_found f ≡ bare_found g → Same (below read owner f p lines) (below read (bare_owner owner) g p (bare_lines lines))
  below_same owner f g p lines h =
      subst (λ at. Same (read owner f p (first_indent lines) lines) (read (bare_owner owner) g p at (bare_lines lines))) (sym (first_bare lines)) (same owner f g p (first_indent lines) lines h)

  item_node_same : (column : ℕ) (p : Progress) (line : LogicalLine) (more : List LogicalLine) → Same (item_node column read p line more) (item_node column read p (bare_line line) (bare_lines more))
  item_node_same column p line more =
      let owner : Owned = record { row = line.row; column = column; is_key = false } in
      either (is_rest_blank false (text_at line.row (column + 1))) (below_same owner no_properties no_properties p more refl)
      (same owner no_properties no_properties p _ (line ∷ more) refl)

  block_item_same : (column : ℕ) → AlikeParts (λ (x : List Tree). x) (block_item column read)
  block_item_same column x y p line more h =
      followed (item_node_same column p line more) (λ got. gives (ap (λ items. (items ++ got.0 ∷ [], got.1)) h))

  value_behind_same : (levels : ℕ) (owner : Owned) (f g : Properties) (p : Progress) (line : LogicalLine) (at : ℕ) (more : List LogicalLine) → bare_found f ≡ bare_found g
      → Same (value_behind levels read owner f p line at more) (value_behind levels read (bare_owner owner) g p (bare_line line) at (bare_lines more))
  value_behind_same levels owner f g p line at more h =
      either (is_rest_blank true (text_at line.row at)) (below_same owner (carried p line.row f) (carried p (bare line.row) g) p more (carried_same p line.row f g h))
      (inline_alone_same f g h levels (owner.column + 1) owner.column p line at more)

  block_value_same : (levels : ℕ) (owner : Owned) (p : Progress) (line : LogicalLine) (behind : ℕ) (more : List LogicalLine)
      → Same (block_value levels read owner p line behind more) (block_value levels read (bare_owner owner) p (bare_line line) behind (bare_lines more))
  block_value_same levels owner p line behind more =
      let start = behind + blanks (text_at line.row behind) in
      chained (properties_same true p line.row start no_properties no_properties 0 (text_at line.row start) refl)
      (λ x y k. value_behind_same levels owner x y p line (start + properties_len 0 (text_at line.row start)) more k)

  block_entry_same : (column levels : ℕ) → AlikeParts bare_entries (block_entry column levels read)
  block_entry_same column levels x y p line more h =
      let cs = text_at line.row column in
      let colon = column + before_colon Block cs in
      let len = value_len column (stands_behind line.row (colon + 1)) more in
      let owner : Owned = record { row = line.row; column = column; is_key = true } in
      rw (value_len_bare column (stands_behind line.row (colon + 1)) more, take-map bare_line len more, drop-map bare_line len more)
      (followed (key_same Block p line.row column)
      (λ key. either (is_colon_of Block cs (text_at line.row colon))
      (followed (new_key_same x y h p line.row column key)
      (λ q. followed (block_value_same levels owner q line (colon + 1) (take len more))
      (λ got. chained (with_pair_same x y h got.1 line.row (Before (place_in got.1.file line.row column)) (Before (place_in got.1.file (bare line.row) column)) key got.0 (ap (λ place. Before place) (place_same got.1.file line.row column)))
      (λ a b k. followed (alone_same false 0 got.1 (drop len more)) (λ q. gives (λ i. (k i, q)))))))
      (bad_same BadScalar p line.row column)))

module _ (levels under : ℕ) (read : Reader) (same : AlikeBlocks read) where
  block_sequence_same : (f g : Properties) (p : Progress) (at : ℕ) (line : LogicalLine) (more : List LogicalLine) → bare_found f ≡ bare_found g
      → Same (block_sequence levels read f p at line more) (block_sequence levels read g p at (bare_line line) (bare_lines more))
  block_sequence_same f g p at line more h =
      followed (one_same levels p line.row at 0)
      (λ q. followed (block_same (λ (x : List Tree). x) (block_item at read) (block_item_same read same at) (is_item_at at) (λ line. refl) (begins_item at) (λ line. refl) [] [] q line more refl)
      (λ got. gives (finished_same f g h (Seq got.0, got.1))))

  block_mapping_same : (f g : Properties) (p : Progress) (at : ℕ) (line : LogicalLine) (more : List LogicalLine) → bare_found f ≡ bare_found g
      → Same (block_mapping levels under read f p at line more) (block_mapping levels under read g p at (bare_line line) (bare_lines more))
  block_mapping_same f g p at line more h =
      followed (one_same levels p line.row at 0)
      (λ q. followed_beside bare_entries _ _ (block_same bare_entries (block_entry at under read) (block_entry_same read same at under) (is_entry_at at) (λ line. refl) (begins_entry at) (λ line. refl) no_entries no_entries q line more refl)
      (λ a b q k. followed (merged_same a b k q line.row) (λ map. gives (finished_same f g h map))))

  block_or_inline_same : (owner : Owned) (f g : Properties) (p : Progress) (at : ℕ) (line : LogicalLine) (more : List LogicalLine) → bare_found f ≡ bare_found g
      → Same (block_or_inline levels under read owner f p at line more) (block_or_inline levels under read (bare_owner owner) g p at (bare_line line) (bare_lines more))
  block_or_inline_same owner f g p at line more h =
      let cs = text_at line.row at in
      either (is_item cs) (chained (unspelled_same p line.row f g h) (λ x y k. block_sequence_same x y p at line more k))
      (either (is_key_behind Block cs) (chained (unspelled_same p line.row f g h) (λ x y k. block_mapping_same x y p at line more k))
      (inline_alone_same f g h levels (goes_on_at owner line at) owner.column p line at more))

  node_with_same : AlikeBlocks (node_with levels under read)
  node_with_same owner f g p at [] h = nothing_same f g h levels p owner.row owner.column
  node_with_same owner f g p at (line ∷ more) h =
      let cs = text_at line.row at in
      let behind = at + properties_len 0 cs in
      followed (begun_same p line)
      (λ q. either (has_own_properties cs)
      (chained (properties_same owner.is_key q line.row at f g 0 cs h)
      (λ x y k. either (is_rest_blank true (text_at line.row behind)) (subst (λ n. Same (node_with levels under read owner (carried q line.row x) q (first_indent more) more) (node_with levels under read (bare_owner owner) (carried q (bare line.row) y) q n (bare_lines more))) (sym (first_bare more))
      (node_with_same owner (carried q line.row x) (carried q (bare line.row) y) q (first_indent more) more (carried_same q line.row x y k)))
      (inline_alone_same x y k levels (goes_on_at owner line at) owner.column q line behind more)))
      (block_or_inline_same owner f g q at line more h))

-- a node
pub node_same : (levels : ℕ) → AlikeBlocks (node levels)
node_same zero = node_with_same 0 0 no_level (λ owner f g p at lines h. refuses (ap (λ place. TooDeep place) (place_same p.file owner.row owner.column)))
node_same (suc levels) = node_with_same (suc levels) levels (node levels) (node_same levels)
