use Rattle.std.proofs.Common.{◌∙◌, sym}
use Rattle.tree_base.specs.Entries.{with_entry}
use Rattle.yaml_nodes.proofs.AddedSteps.{put_last}
use Rattle.yaml_nodes.proofs.added.put_pair.Goals as goal

pub returns-in_ok-put : goal.returns-in_ok-put
returns-in_ok-put c =
    let own = c.args.own.now in
    put_last own c.put.new.self c.args.key.now c.args.tree.now (sym c.is_new.ensures ∙ c.if-is_new.true)
    (c.in_ok-put.ensures.ok ∙ (λ i. with_entry own (c.in_ok-copy.ensures i) (c.in_ok-copy-2.ensures i)))
