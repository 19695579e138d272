-- What lines spell is within the limits.
use Rattle.std.proofs.Common.{ℕ, ◌≤◌, List, arith}
use Rattle.yaml_groups.specs.declared.line.LogicalLine.{LogicalLine}
use Rattle.tree_base.specs.Trees.{depth, node_count, text_size}
use Rattle.tree_base.specs.declared.tree.Tree.{Tree}
use Rattle.yaml_nodes.specs.Progress.{at_start}
use Rattle.yaml_nodes.specs.Properties.{no_properties}
use Rattle.laws_yaml.proofs.BlockLimits.{node_grows}
use Rattle.laws_yaml.proofs.Chains.{Yields, given, chained}
use Rattle.laws_yaml.proofs.Limits.{Grows}
use Rattle.yaml_tree.specs.Reading.{behind_start, document, no_owner}

-- a tree of at most so many levels, within the other limits
pub record IsLimited (levels : ℕ) (tree : Tree) : Type 0 where
  pub deep : depth tree ≤ levels
  pub nodes : node_count tree ≤ 200000
  pub text : text_size tree ≤ 16777216

-- before a document nothing was read, so all that was counted in it is its tree's
grown : (levels file : ℕ) (got : Tree × _) → Grows levels (at_start file) got → IsLimited levels got.0
grown levels file got h = record { deep = h.deep; nodes = omega arith; text = omega arith }

pub document_limited : (levels file : ℕ) (lines : List LogicalLine) → Yields (IsLimited levels) (document levels file lines)
document_limited levels file lines =
    chained _ _ (node_grows levels no_owner no_properties (at_start file) _ (behind_start lines)) (λ got h. given _ (grown levels file got h))
