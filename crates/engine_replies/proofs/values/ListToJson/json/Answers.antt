use Rattle.std.proofs.Common.{◌∙◌, arith}
use Rattle.engine_replies.proofs.Tables.{all_values, one_value}
use Rattle.engine_replies.proofs.values.ListToJson.json.Goals as goal

pub loop-item-preserved : goal.loop-item-preserved
loop-item-preserved g c =
    one_value g.T.ToJson.told c.as_slice-item-items.result.now c.loop-item.item-index c.item-item.result c.loop-item.items.items c.push.new.list.items c.in_ok-value.value (omega arith) c.item-item.is
    c.loop-item.invariant c.in_ok-value.ensures c.in_ok-push.ensures.ok

pub returns : goal.returns
returns g c =
    c.from.ensures
    ∙ all_values g.T.ToJson.told c.as_slice-item-items.result.now c.loop-item.item-index c.args.self.now c.loop-item.items.items c.loop-item-test.false c.as_slice-item-items.ensures c.loop-item.invariant
