-- The entries of a mapping are within the limits.
use Rattle.std.proofs.Common.{◌≡◌, ℕ, false, refl, ◌+◌, ◌≤◌, Option, Some, None, List, [], ◌++◌, length, arith}
use Rattle.std.proofs.lemmas.List.Sums.{sum_by-append}
use Rattle.tree_base.specs.Entries.{with_entry}
use Rattle.tree_base.specs.Trees.{depth, node_count, text_size}
use Rattle.tree_base.specs.declared.tree.Tree.{Tree, out-Tree}
use Rattle.yaml_lines.specs.declared.row.Row.{Row}
use Rattle.yaml_nodes.specs.declared.entries.Entries.{Entries}
use Rattle.yaml_nodes.specs.declared.entries.Merge.{Merge}
use Rattle.yaml_nodes.specs.declared.key.Key.{Key}
use Rattle.yaml_nodes.specs.declared.progress.Progress.{Progress}
use Rattle.yaml_nodes.specs.declared.spot.Spot.{Spot}
use Rattle.yaml_nodes.specs.declared.spot.Spot.TheVariants.{Here}
use Rattle.yaml_nodes.specs.Mappings.{Pairs, added, added_maps, key_size, merged, merged_with, new_key, no_entries, with_merge, with_pair}
use Rattle.laws_yaml.proofs.Chains.{Yields, given, refused, either, either_by, chained, weaker}
use Rattle.laws_yaml.proofs.Limits.{IsWithin, Counts, Grows}
use Rattle.laws_yaml.proofs.NodeLimits.{CountsText, CountsBoth, more_text_counts, more_nodes_counts}
use Rattle.laws_yaml.proofs.PairSizes.{AreShallow, added_shallow, maps_depth, pairs_depth, pairs_depth-added, pairs_depth-append, pairs_depth_put, pairs_nodes, pairs_nodes_put, pairs_text, pairs_text_put}
use Rattle.laws_yaml.proofs.Sizes.{map_sizes}

-- the mappings that a merge key adds
abbrev maps_of : Option Merge → List Pairs
maps_of None = []
maps_of (Some merge) = merge.maps

-- entries were read, with values of at most so many levels, and all of them counted
pub record Fills (levels : ℕ) (p : Progress) (got : Entries × Progress) : Type 0 where
  pub deep : pairs_depth got.0.own ≤ levels
  pub added : maps_depth (maps_of got.0.merge) ≤ levels
  pub counted : Counts p (pairs_nodes got.0.own) (pairs_text got.0.own) got.1
  pub within : IsWithin got.1

pub none_fill : (levels : ℕ) (p : Progress) → IsWithin p → Fills levels p (no_entries, p)
none_fill levels p h = record { deep = omega arith; added = omega arith; counted = record { nodes = omega arith; text = omega arith }; within = h }

-- a key is counted
pub new_key_counts : (entries : Entries) (p : Progress) (row : Row) (at : ℕ) (key : Key) → Yields (Counts p 0 (key_size key)) (new_key entries p row at key)
new_key_counts entries p row at key = either _ _ _ (refused _) (weaker (λ q (h : CountsText p (key_size key) q). h.counted) (more_text_counts p row (Here at) (key_size key)))

module _ (levels : ℕ) (p before q : Progress) (row : Row) (spot : Spot) (entries : Entries) (key : Key) (tree : Tree)
    (filled : Fills levels p (entries, before)) (counted : Counts before (node_count tree) (key_size key + text_size tree) q) (deep : depth tree ≤ levels) (within : IsWithin q) where
  merge_fills : (maps : Option (List Pairs)) → AreShallow levels maps → Yields (λ after. Fills levels p (after, q)) (with_merge entries q row spot maps)
  merge_fills None h = refused _
  merge_fills (Some maps) h = given _ (record { deep = filled.deep; added = h; counted = record { nodes = omega arith; text = omega arith }; within = within })

  own_fills : key.is_merge ≡ false → Fills levels p (record entries { own = with_entry entries.own key.text tree }, q)
  own_fills is_own =
      let size : key_size key ≡ length key.text = rw is_own refl in
      let d = pairs_depth_put entries.own key.text tree in
      let n = pairs_nodes_put entries.own key.text tree in
      let t = pairs_text_put entries.own key.text tree in
      record { deep = omega arith; added = filled.added; counted = record { nodes = omega arith; text = omega arith }; within = within }

  -- one more pair, whose key and value are counted
  pub with_pair_fills : Yields (λ after. Fills levels p (after, q)) (with_pair entries q row spot key tree)
  with_pair_fills = either_by key.is_merge _ _ (λ merge. merge_fills (added_maps (out-Tree tree)) (added_shallow levels tree deep)) (λ is_own. given _ (own_fills is_own))

module _ (levels under : ℕ) (p first q : Progress) (row : Row) (more_levels : under + 1 ≤ levels) (counted : Counts p 1 0 first) where
  merged_with_grows : (own : Pairs) (merge : Option Merge) → Fills under first (record { own = own; merge = merge }, q) → Yields (Grows levels p) (merged_with q row own merge)
  merged_with_grows own None h =
      let sizes = map_sizes own in
      given _ (record { deep = omega arith; counted = record { nodes = omega arith; text = omega arith }; within = h.within })
  merged_with_grows own (Some merge) h =
      let more = added own merge.maps in
      chained _ _ (more_nodes_counts q row merge.spot (pairs_nodes more) (pairs_text more))
      (λ after (k : CountsBoth q (pairs_nodes more) (pairs_text more) after).
      let sizes = map_sizes (own ++ more) in
      let d = pairs_depth-append own more in
      let a = pairs_depth-added own merge.maps in
      let n = sum_by-append (λ pair. node_count pair.1) own more in
      let t = sum_by-append (λ pair. length pair.0 + text_size pair.1) own more in
      given _ (record { deep = omega arith; counted = record { nodes = omega arith; text = omega arith }; within = k.within }))

  -- the mapping of entries, which is a node more
  pub merged_grows : (entries : Entries) → Fills under first (entries, q) → Yields (Grows levels p) (merged q row entries)
  merged_grows entries h = merged_with_grows entries.own entries.merge h
