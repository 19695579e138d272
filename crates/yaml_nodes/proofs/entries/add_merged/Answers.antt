use Rattle.std.proofs.Common.{ap}
use Rattle.tree_base.specs.declared.tree.Tree.TheVariants.{Map}
use Rattle.yaml_nodes.specs.Mappings.{merged_with}
use Rattle.yaml_nodes.specs.Progress.{result_left}
use Rattle.yaml_nodes.proofs.AddedSteps.{then_merged}
use Rattle.yaml_nodes.proofs.Chains.{gives_as}
use Rattle.yaml_nodes.proofs.entries.add_merged.Goals as goal

pub returns : goal.returns
returns c =
    let p = c.args.progress.now in
    let row = c.args.row.now in
    let own = c.args.own.now in
    let put = rw c.as_slice.ensures at c.in_ok-put_added.ensures in
    gives_as (result_left c.count.result (Map c.put_added.new.own, c.count.new.progress)) (ap (merged_with p row own) c.in-Some.is)
    (then_merged c.count.result p c.count.new.progress row own c.put_added.new.own c.in-Some.merge c.keys_from.result.now c.trees_from.result.now
    c.len-first.result c.len-first.ensures.len put c.keys_from.ensures c.trees_from.ensures c.count.ensures)
