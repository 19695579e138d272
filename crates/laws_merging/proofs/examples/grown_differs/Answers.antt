use Rattle.std.proofs.Common.{rules}
use Rattle.tree_base.specs.declared.tree.Tree.{the_lemmas}
use Rattle.merge_tables.specs.Attributes.{overlay_rules}
use Rattle.merge_rules.specs.Overlay.{over_files}
use Rattle.laws_merging.proofs.examples.grown_differs.Goals as goal

pub returns : goal.returns
unfolding over_files overlay_rules
returns c = (search (rules, the_lemmas), search (rules, the_lemmas))
