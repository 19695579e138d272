use Rattle.std.proofs.Common.{rules}
use Rattle.tree_base.specs.declared.tree.Tree.{the_lemmas}
use Rattle.merge_tables.specs.Attributes.{overlay_rules}
use Rattle.laws_merging.proofs.examples.ports_are_plain.Goals as goal

pub returns : goal.returns
unfolding overlay_rules
returns c = search (rules, the_lemmas)
