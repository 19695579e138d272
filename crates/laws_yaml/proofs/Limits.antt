-- How what was read stays within the limits.
use Rattle.std.proofs.Common.{ℕ, ◌+◌, ◌≤◌, List, Option, Some, None, arith}
use Rattle.tree_base.specs.Trees.{depth, node_count, text_size}
use Rattle.tree_base.specs.declared.tree.Tree.{Tree}
use Rattle.yaml_nodes.specs.declared.progress.Progress.{Progress}
use Rattle.yaml_nodes.specs.declared.properties.Properties.{Properties}
use Rattle.yaml_nodes.specs.declared.properties.Tag.{Tag}
use Rattle.yaml_nodes.specs.declared.properties.Tag.TheVariants as tags
use Rattle.yaml_nodes.specs.declared.spot.Spot.{Spot}
use Rattle.yaml_nodes.specs.Properties.{finished, marked, named}
use Rattle.yaml_nodes.specs.Scalars.{Inline}
use Rattle.laws_yaml.proofs.Sizes.{reset_sizes, override_sizes}

-- what was read is within the limits
pub record IsWithin (p : Progress) : Type 0 where
  pub nodes : p.nodes ≤ 200000
  pub text : p.text ≤ 16777216

-- so many nodes and bytes more were read
pub record Counts (p : Progress) (many long : ℕ) (q : Progress) : Type 0 where
  pub nodes : p.nodes + many ≤ q.nodes
  pub text : p.text + long ≤ q.text

-- a tree of at most so many levels was read, and all of it counted
pub record Grows (levels : ℕ) (p : Progress) (got : Tree × Progress) : Type 0 where
  pub deep : depth got.0 ≤ levels
  pub counted : Counts p (node_count got.0) (text_size got.0) got.1
  pub within : IsWithin got.1

-- the same of a node on one line
abbrev pub GrowsInline : ℕ → Progress → Inline → Type 0
GrowsInline levels p got = Grows levels p (got.0.0, got.1)

-- a name doesn't count
named_counts : (p : Progress) (many long : ℕ) (name : Option (List ℕ)) (q : Progress) (tree : Tree) → Counts p many long q → Counts p many long (named name q tree)
named_counts p many long None q tree h = h
named_counts p many long (Some name) q tree h = record { nodes = h.nodes; text = h.text }

named_within : (name : Option (List ℕ)) (q : Progress) (tree : Tree) → IsWithin q → IsWithin (named name q tree)
named_within None q tree h = h
named_within (Some name) q tree h = record { nodes = h.nodes; text = h.text }

-- a mark makes no tree larger
marked_grows : (levels : ℕ) (p : Progress) (tag : Option (Tag × Spot)) (tree : Tree) (q : Progress) → Grows levels p (tree, q) → Grows levels p (marked tag tree, q)
marked_grows levels p None tree q h = h
marked_grows levels p (Some (tags.Str, spot)) tree q h = h
marked_grows levels p (Some (tags.Reset, spot)) tree q h =
    let sizes = reset_sizes in
    record { deep = omega arith; counted = record { nodes = omega arith; text = omega arith }; within = h.within }
marked_grows levels p (Some (tags.Override, spot)) tree q h =
    let sizes = override_sizes tree in
    record { deep = omega arith; counted = record { nodes = omega arith; text = omega arith }; within = h.within }

-- a node that is finished is no larger
pub finished_grows : (levels : ℕ) (p : Progress) (found : Properties) (got : Tree × Progress) → Grows levels p got → Grows levels p (finished found got)
finished_grows levels p found (tree, q) h =
    let h' = marked_grows levels p found.tag tree q h in
    record { deep = h'.deep; counted = named_counts p _ _ found.name q tree h'.counted; within = named_within found.name q tree h'.within }
