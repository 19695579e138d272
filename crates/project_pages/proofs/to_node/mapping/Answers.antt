use Rattle.std.proofs.Common.{◌<◌, ◌∙◌, length, arith}
use Rattle.project_pages.proofs.Keys.{item_put}
use Rattle.project_pages.proofs.Lists.{holds_at}
use Rattle.project_pages.proofs.to_node.mapping.Goals as goal

pub node-requires : goal.node-requires
node-requires g c =
    let within : c.loop-item.item-index < length c.args.items.now = omega arith in
    holds_at g.T.ToNode.is_fit c.args.items.now c.loop-item.item-index c.item-item.result c.requires.fit within c.item-item.is

pub loop-item-preserved : goal.loop-item-preserved
loop-item-preserved g c =
    let within : c.loop-item.item-index < length c.args.items.now = omega arith in
    item_put g.T.Keyed.name g.T.ToNode.shown c.args.items.now c.loop-item.item-index c.item-item.result c.loop-item.entries _ _ _ c.requires.keys within c.item-item.is
    c.loop-item.invariant (c.as_str.ensures.value ∙ c.key.ensures) c.in_ok-node.ensures c.in_ok-put_node.ensures
