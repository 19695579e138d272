use Rattle.std.proofs.Common.{◌<◌, length, arith}
use Rattle.project_pages.proofs.Lists.{all_made, holds_at, one_made}
use Rattle.project_pages.proofs.to_node.nodes.Goals as goal

pub node-requires : goal.node-requires
node-requires g c =
    let within : c.loop-item.item-index < length c.args.items.now = omega arith in
    holds_at g.T.ToNode.is_fit c.args.items.now c.loop-item.item-index c.item-item.result c.requires within c.item-item.is

pub loop-item-preserved : goal.loop-item-preserved
loop-item-preserved g c =
    let within : c.loop-item.item-index < length c.args.items.now = omega arith in
    one_made g.T.ToNode.shown c.args.items.now c.loop-item.item-index c.item-item.result c.loop-item.nodes _ _ within c.item-item.is
    c.loop-item.invariant c.in_ok-node.ensures c.in_ok-push.ensures.ok

pub returns : goal.returns
returns g c = all_made g.T.ToNode.shown c.args.items.now c.loop-item.item-index c.loop-item.nodes c.loop-item.invariant (omega arith)
