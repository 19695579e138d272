-- The items of a sequence are within the limits.
use Rattle.std.proofs.Common.{ℕ, ◌+◌, ◌≤◌, List, [], ◌∷◌, ◌++◌, map, sum_by, ap, ◌∙◌, arith}
use Rattle.std.proofs.lemmas.List.{map-append}
use Rattle.std.proofs.lemmas.List.Sums.{sum_by_push}
use Rattle.tree_base.specs.Trees.{depth, greatest, node_count, text_size}
use Rattle.tree_base.specs.declared.tree.Tree.{Tree}
use Rattle.tree_base.specs.declared.tree.Tree.TheVariants.{Seq}
use Rattle.yaml_nodes.specs.declared.progress.Progress.{Progress}
use Rattle.laws_yaml.proofs.Limits.{IsWithin, Counts, Grows}
use Rattle.laws_yaml.proofs.PairSizes.{greatest-append}
use Rattle.laws_yaml.proofs.Sizes.{seq_sizes}

-- items of at most so many levels were read, and all of them counted
pub record Lists (levels : ℕ) (p : Progress) (got : List Tree × Progress) : Type 0 where
  pub deep : greatest (map depth got.0) ≤ levels
  pub counted : Counts p (sum_by node_count got.0) (sum_by text_size got.0) got.1
  pub within : IsWithin got.1

pub none_list : (levels : ℕ) (p : Progress) → IsWithin p → Lists levels p ([], p)
none_list levels p h = record { deep = omega arith; counted = record { nodes = omega arith; text = omega arith }; within = h }

-- one more item
pub push_lists : (levels : ℕ) (p before q : Progress) (items : List Tree) (tree : Tree) → Lists levels p (items, before) → Grows levels before (tree, q) → Lists levels p (items ++ tree ∷ [], q)
push_lists levels p before q items tree h k =
    let d = ap greatest (map-append depth items (tree ∷ [])) ∙ greatest-append (map depth items) (depth tree ∷ []) in
    let n = sum_by_push node_count items tree in
    let t = sum_by_push text_size items tree in
    record { deep = omega arith; counted = record { nodes = omega arith; text = omega arith }; within = k.within }

-- the sequence of items, which is a node more
pub seq_grows : (levels under : ℕ) (p first q : Progress) (items : List Tree) → under + 1 ≤ levels → Counts p 1 0 first → Lists under first (items, q) → Grows levels p (Seq items, q)
seq_grows levels under p first q items more_levels counted h =
    let sizes = seq_sizes items in
    record { deep = omega arith; counted = record { nodes = omega arith; text = omega arith }; within = h.within }
