use Rattle.std.proofs.Common.{◌∙◌, ℕ, List, ap}
use Rattle.std.specs.Prelude.{Option}
use Rattle.std.specs.Option.{option_map_or}
use Rattle.project_print.specs.declared.node.Node.{Node}
use Rattle.project_print.specs.declared.node.Node.TheVariants.{Map, Null, Text}
use Rattle.project_pages.proofs.Keys.{values_long, values_made}
use Rattle.project_pages.proofs.values.pairs_node.Goals as goal

abbrev shown : Option (List ℕ) → Node
shown value = option_map_or Text value Null

pub with_values-requires : goal.with_values-requires
with_values-requires c = values_long shown c.args.pairs.now c.values.result.now c.in_ok-values.values c.values.ensures c.in_ok-values.ensures

pub returns : goal.returns
returns c = ap Map (c.in_ok-with_values.ensures ∙ values_made shown c.args.pairs.now c.values.result.now c.in_ok-values.values c.values.ensures c.in_ok-values.ensures)
