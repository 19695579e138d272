-- Block collections are within the limits.
use Rattle.std.proofs.Common.{ℕ, zero, suc, ◌+◌, ◌-◌, ◌≤◌, List, [], ◌∷◌, true, false, take, drop, arith}
use Rattle.yaml_groups.specs.declared.line.LogicalLine.{LogicalLine}
use Rattle.tree_base.specs.declared.tree.Tree.{Tree}
use Rattle.yaml_lines.specs.Blanks.{blanks, is_rest_blank}
use Rattle.yaml_lines.specs.declared.plain.Context.TheVariants.{Block}
use Rattle.yaml_lines.specs.Rows.{place_in, text_at}
use Rattle.yaml_nodes.specs.declared.entries.Entries.{Entries}
use Rattle.yaml_nodes.specs.declared.progress.Progress.{Progress}
use Rattle.yaml_nodes.specs.declared.properties.Properties.{Properties}
use Rattle.yaml_nodes.specs.declared.spot.Spot.TheVariants.{Before}
use Rattle.yaml_nodes.specs.Mappings.{key_at, no_entries}
use Rattle.yaml_nodes.specs.Marks.{before_colon, is_colon_of, is_item, is_key_behind, properties_len}
use Rattle.yaml_nodes.specs.Properties.{carried, no_properties, properties_from, unspelled}
use Rattle.laws_yaml.proofs.Chains.{Yields, given, refused, either, chained, followed, unchanged}
use Rattle.laws_yaml.proofs.EntryLimits.{Fills, none_fill, new_key_counts, with_pair_fills, merged_grows}
use Rattle.laws_yaml.proofs.InlineLimits.{alone_same, inline_alone_grows}
use Rattle.laws_yaml.proofs.ItemLimits.{Lists, none_list, push_lists, seq_grows}
use Rattle.laws_yaml.proofs.Limits.{Counts, Grows, finished_grows}
use Rattle.laws_yaml.proofs.NodeLimits.{one_node_takes, nothing_grows}
use Rattle.laws_yaml.proofs.PartLimits.{begun_same, block_keeps}
use Rattle.yaml_tree.specs.Blocks.{Reader, block_entry, block_item, block_mapping, block_or_inline, block_sequence, block_value, has_own_properties, item_node, no_level, node, node_with, stands_behind, value_behind}
use Rattle.yaml_tree.specs.Inline.{Owned, goes_on_at}
use Rattle.yaml_tree.specs.Parts.{begins_entry, begins_item, begun, first_indent, is_entry_at, is_item_at, value_len}

-- what a reader reads is of at most so many levels and counted
abbrev pub BlockGrows : ℕ → Reader → Type 0
BlockGrows levels read = (owner : Owned) (found : Properties) (p : Progress) (at : ℕ) (lines : List LogicalLine) → Yields (Grows levels p) (read owner found p at lines)

module _ (levels : ℕ) (read : Reader) (grows : BlockGrows levels read) where
  item_node_grows : (column : ℕ) (p : Progress) (line : LogicalLine) (more : List LogicalLine) → Yields (Grows levels p) (item_node column read p line more)
  item_node_grows column p line more = either (is_rest_blank false (text_at line.row (column + 1))) _ _ (grows _ _ p _ more) (grows _ _ p _ (line ∷ more))

  block_item_lists : (p : Progress) (column : ℕ) (done : List Tree × Progress) (line : LogicalLine) (more : List LogicalLine) → Lists levels p done → Yields (Lists levels p) (block_item column read done line more)
  block_item_lists p column done line more h =
      chained _ _ (item_node_grows column done.1 line more) (λ got k. given _ (push_lists levels p done.1 got.1 done.0 got.0 h k))

  value_behind_grows : (owner : Owned) (found : Properties) (p : Progress) (line : LogicalLine) (at : ℕ) (more : List LogicalLine) → Yields (Grows levels p) (value_behind levels read owner found p line at more)
  value_behind_grows owner found p line at more =
      either (is_rest_blank true (text_at line.row at)) _ _ (grows owner _ p _ more) (inline_alone_grows levels (owner.column + 1) owner.column found p line at more)

  block_value_grows : (owner : Owned) (p : Progress) (line : LogicalLine) (behind : ℕ) (more : List LogicalLine) → Yields (Grows levels p) (block_value levels read owner p line behind more)
  block_value_grows owner p line behind more =
      let start = behind + blanks (text_at line.row behind) in
      followed (properties_from true p line.row start no_properties 0 (text_at line.row start)) _
      (λ found. value_behind_grows owner found p line (start + properties_len 0 (text_at line.row start)) more)

  block_entry_fills : (p : Progress) (column : ℕ) (done : Entries × Progress) (line : LogicalLine) (more : List LogicalLine) → Fills levels p done → Yields (Fills levels p) (block_entry column levels read done line more)
  block_entry_fills p column done line more h =
      let cs = text_at line.row column in
      let colon = column + before_colon Block cs in
      let len = value_len column (stands_behind line.row (colon + 1)) more in
      followed (key_at Block done.1 line.row column) _
      (λ key. either (is_colon_of Block cs (text_at line.row colon)) _ _
      (chained _ _ (new_key_counts done.0 done.1 line.row column key)
      (λ q c. chained _ _ (block_value_grows (record { row = line.row; column = column; is_key = true }) q line (colon + 1) (take len more))
      (λ got k. let both : Counts done.1 _ _ got.1 = record { nodes = omega arith; text = omega arith } in
      chained _ _ (with_pair_fills levels p done.1 got.1 line.row (Before (place_in got.1.file line.row column)) done.0 key got.0 h both k.deep k.within)
      (λ entries f. unchanged got.1 _ _ (alone_same false 0 got.1 (drop len more)) (given _ f)))))
      (refused _))

module _ (levels under : ℕ) (read : Reader) (less : under ≤ levels - 1) (grows : BlockGrows under read) where
  block_sequence_grows : (found : Properties) (p : Progress) (at : ℕ) (line : LogicalLine) (more : List LogicalLine) → Yields (Grows levels p) (block_sequence levels read found p at line more)
  block_sequence_grows found p at line more =
      chained _ _ (one_node_takes levels p line.row at 0)
      (λ first t. let one_less : under + 1 ≤ levels = omega arith in
      chained _ _ (block_keeps (Lists under first) _ (block_item_lists under read grows first at) (begins_item at) (is_item_at at) ([], first) line more (none_list under first t.within))
      (λ got h. given _ (finished_grows levels p found _ (seq_grows levels under p first got.1 got.0 one_less t.counted h))))

  block_mapping_grows : (found : Properties) (p : Progress) (at : ℕ) (line : LogicalLine) (more : List LogicalLine) → Yields (Grows levels p) (block_mapping levels under read found p at line more)
  block_mapping_grows found p at line more =
      chained _ _ (one_node_takes levels p line.row at 0)
      (λ first t. let one_less : under + 1 ≤ levels = omega arith in
      chained _ _ (block_keeps (Fills under first) _ (block_entry_fills under read grows first at) (begins_entry at) (is_entry_at at) (no_entries, first) line more (none_fill under first t.within))
      (λ got h. chained _ _ (merged_grows levels under p first got.1 line.row one_less t.counted got.0 h) (λ map k. given _ (finished_grows levels p found map k))))

  block_or_inline_grows : (owner : Owned) (found : Properties) (p : Progress) (at : ℕ) (line : LogicalLine) (more : List LogicalLine) → Yields (Grows levels p) (block_or_inline levels under read owner found p at line more)
  block_or_inline_grows owner found p at line more =
      let cs = text_at line.row at in
      either (is_item cs) _ _ (followed (unspelled p line.row found) _ (λ found. block_sequence_grows found p at line more))
      (either (is_key_behind Block cs) _ _ (followed (unspelled p line.row found) _ (λ found. block_mapping_grows found p at line more))
      (inline_alone_grows levels (goes_on_at owner line at) owner.column found p line at more))

  node_with_grows : BlockGrows levels (node_with levels under read)
  node_with_grows owner found p at [] = nothing_grows levels found p owner.row owner.column
  node_with_grows owner found p at (line ∷ more) =
      let cs = text_at line.row at in
      let behind = at + properties_len 0 cs in
      unchanged p (begun p line) _ (begun_same p line)
      (either (has_own_properties cs) _ _
      (followed (properties_from owner.is_key p line.row at found 0 cs) _
      (λ found. either (is_rest_blank true (text_at line.row behind)) _ _ (node_with_grows owner (carried p line.row found) p (first_indent more) more)
      (inline_alone_grows levels (goes_on_at owner line at) owner.column found p line behind more)))
      (block_or_inline_grows owner found p at line more))

-- a node is of at most the levels that are left for it
pub node_grows : (levels : ℕ) → BlockGrows levels (node levels)
node_grows zero owner found p at lines = node_with_grows 0 0 no_level (omega arith) (λ owner found p at lines. refused _) owner found p at lines
node_grows (suc levels) owner found p at lines = node_with_grows (suc levels) levels (node levels) (omega arith) (node_grows levels) owner found p at lines
