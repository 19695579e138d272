use Rattle.std.proofs.Common.{◌∙◌, arith}
use Rattle.engine_replies.proofs.Tables.{all_items, keyed, named, none_yet, one_more}
use Rattle.engine_replies.proofs.objects.Object.items.Goals as goal

pub loop-item-init : goal.loop-item-init
loop-item-init g c = none_yet (keyed g.T.Keyed.name g.T.ToJson.told) c.args.self.now c.as_slice-item-items.result.now

pub loop-item-preserved : goal.loop-item-preserved
loop-item-preserved g c =
    one_more (keyed g.T.Keyed.name g.T.ToJson.told) c.as_slice-item-items.result.now c.loop-item.item-index c.value.new.self c.item-item.result (omega arith) c.item-item.is c.loop-item.invariant
    (named c.as_str.result.now (g.T.Keyed.name c.item-item.result) (c.as_str.ensures.value ∙ c.key.ensures) c.value.ensures)

pub returns : goal.returns
returns g c = all_items (keyed g.T.Keyed.name g.T.ToJson.told) c.as_slice-item-items.result.now c.loop-item.item-index c.args.items.now c.loop-item-test.false c.as_slice-item-items.ensures c.loop-item.invariant
