-- Flow collections are within the limits.
use Rattle.std.proofs.Common.{◌≡◌, ℕ, zero, suc, ◌+◌, ◌-◌, ◌≤◌, List, [], Bool, true, false, nat_le, refl, arith}
use Rattle.tree_base.specs.declared.tree.Tree.{Tree}
use Rattle.yaml_flow.specs.declared.piece.Piece.{Piece}
use Rattle.yaml_flow.specs.Flow.{FlowReader, at_stop, flow, flow_entry, flow_item, flow_mapping, flow_node, flow_properties, flow_sequence, flow_value, flow_with, no_level, nothing_before}
use Rattle.yaml_flow.specs.Gaps.{next_place}
use Rattle.yaml_lines.specs.declared.plain.Context.TheVariants.{Flow}
use Rattle.yaml_lines.specs.declared.row.Row.{Row}
use Rattle.yaml_lines.specs.Rows.{text_at}
use Rattle.yaml_nodes.specs.declared.entries.Entries.{Entries}
use Rattle.yaml_nodes.specs.declared.progress.Progress.{Progress}
use Rattle.yaml_nodes.specs.declared.properties.Properties.{Properties}
use Rattle.yaml_nodes.specs.declared.spot.Spot.TheVariants.{Here}
use Rattle.yaml_nodes.specs.Mappings.{key_at, no_entries}
use Rattle.yaml_nodes.specs.Marks.{is_key_behind, starts}
use Rattle.yaml_nodes.specs.Progress.{one_node}
use Rattle.yaml_nodes.specs.Properties.{no_properties, unspelled}
use Rattle.laws_yaml.proofs.Chains.{Yields, given, refused, either, chained, followed, unchanged}
use Rattle.laws_yaml.proofs.EntryLimits.{Fills, none_fill, new_key_counts, with_pair_fills, merged_grows}
use Rattle.laws_yaml.proofs.ItemLimits.{Lists, none_list, push_lists, seq_grows}
use Rattle.laws_yaml.proofs.Limits.{Counts, Grows, GrowsInline, finished_grows}
use Rattle.laws_yaml.proofs.NodeLimits.{one_node_takes, nothing_grows, word_grows}
use Rattle.laws_yaml.proofs.PieceLimits.{between_keeps}

-- what a reader reads is of at most so many levels and counted
abbrev pub FlowGrows : ℕ → FlowReader → Type 0
FlowGrows levels read = (found : Properties) (p : Progress) (row : Row) (at : ℕ) → Yields (GrowsInline levels p) (read found p row at)

module _ (levels : ℕ) (read : FlowReader) (grows : FlowGrows levels read) (row : Row) where
  at_stop_same : (piece : Piece) (p : Progress) (end : ℕ) → Yields (λ q. p ≡ q) (at_stop row piece p end)
  at_stop_same piece p end = followed (next_place p row false end) _ (λ at. either _ _ _ (given p refl) (refused _))

  nothing_before_grows : (found : Properties) (p : Progress) (owner end : ℕ) → Yields (GrowsInline levels p) (nothing_before levels found p row owner end)
  nothing_before_grows found p owner end = chained _ _ (nothing_grows levels found p row owner) (λ got h. given _ h)

  flow_node_grows : (may_be_marked : Bool) (piece : Piece) (owner : ℕ) (p : Progress) (at : ℕ) → Yields (GrowsInline levels p) (flow_node levels read may_be_marked row piece owner p at)
  flow_node_grows may_be_marked piece owner p at =
      followed (flow_properties 3 may_be_marked p row no_properties at) _
      (λ found. either (nat_le piece.stop found.1) _ _ (nothing_before_grows found.0 p owner found.1) (grows found.0 p row found.1))

  flow_item_lists : (p : Progress) (piece : Piece) (done : List Tree × Progress) (at : ℕ) → Lists levels p done → Yields (Lists levels p) (flow_item levels read row piece done at)
  flow_item_lists p piece done at h =
      either (is_key_behind Flow (text_at row at)) _ _ (followed (one_node levels done.1 row at 0) _ (λ q. refused _))
      (chained _ _ (flow_node_grows false piece at done.1 at)
      (λ got k. unchanged got.1 _ _ (at_stop_same piece got.1 got.0.1) (given _ (push_lists levels p done.1 got.1 done.0 got.0.0 h k))))

  flow_value_grows : (piece : Piece) (key : ℕ) (p : Progress) (behind : ℕ) (has_colon : Bool) → Yields (GrowsInline levels p) (flow_value levels read row piece key p behind has_colon)
  flow_value_grows piece key p behind has_colon =
      either has_colon _ _
      (followed (next_place p row false behind) _ (λ at. either (nat_le piece.stop at) _ _ (nothing_before_grows no_properties p key at) (flow_node_grows true piece key p at)))
      (nothing_before_grows no_properties p key behind)

  flow_entry_fills : (p : Progress) (piece : Piece) (done : Entries × Progress) (at : ℕ) → Fills levels p done → Yields (Fills levels p) (flow_entry levels read row piece done at)
  flow_entry_fills p piece done at h =
      followed (key_at Flow done.1 row at) _
      (λ key. chained _ _ (new_key_counts done.0 done.1 row at key)
      (λ q c. chained _ _ (flow_value_grows piece at q _ _)
      (λ got k. let both : Counts done.1 _ _ got.1 = record { nodes = omega arith; text = omega arith } in
      chained _ _ (with_pair_fills levels p done.1 got.1 row (Here at) done.0 key got.0.0 h both k.deep k.within)
      (λ entries f. unchanged got.1 _ _ (at_stop_same piece got.1 got.0.1) (given _ f)))))

module _ (levels under : ℕ) (read : FlowReader) (less : under ≤ levels - 1) (grows : FlowGrows under read) where
  flow_sequence_grows : FlowGrows levels (flow_sequence levels under read)
  flow_sequence_grows found p row at =
      chained _ _ (one_node_takes levels p row at 0)
      (λ first t. let one_less : under + 1 ≤ levels = omega arith in
      chained _ _ (between_keeps (Lists under first) (flow_item under read row) row (flow_item_lists under read grows row first) at 93 [] first (none_list under first t.within))
      (λ got h. given _ (finished_grows levels p found _ (seq_grows levels under p first got.1 got.0.0 one_less t.counted h))))

  flow_mapping_grows : FlowGrows levels (flow_mapping levels under read)
  flow_mapping_grows found p row at =
      chained _ _ (one_node_takes levels p row at 0)
      (λ first t. let one_less : under + 1 ≤ levels = omega arith in
      chained _ _ (between_keeps (Fills under first) (flow_entry under read row) row (flow_entry_fills under read grows row first) at 125 no_entries first (none_fill under first t.within))
      (λ got h. chained _ _ (merged_grows levels under p first got.1 row one_less t.counted got.0.0 h)
      (λ map k. given _ (finished_grows levels p found map k))))

  flow_with_grows : FlowGrows levels (flow_with levels under read)
  flow_with_grows found p row at =
      let cs = text_at row at in
      either (starts 91 cs) _ _ (followed (unspelled p row found) _ (λ found. flow_sequence_grows found p row at))
      (either (starts 123 cs) _ _ (followed (unspelled p row found) _ (λ found. flow_mapping_grows found p row at)) (word_grows Flow levels found p row at))

-- a node in a flow collection is of at most the levels that are left for it
pub flow_grows : (levels : ℕ) → FlowGrows levels (flow levels)
flow_grows zero = flow_with_grows 0 0 no_level (omega arith) (λ found p row at. refused _)
flow_grows (suc levels) = flow_with_grows (suc levels) levels (flow levels) (omega arith) (flow_grows levels)
