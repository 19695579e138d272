use Rattle.std.proofs.Common.{arith}
use Rattle.engine_replies.proofs.Tables.{all_items, alone, named, none_yet, one_more}
use Rattle.engine_replies.proofs.objects.Object.names.Goals as goal

pub loop-name-init : goal.loop-name-init
loop-name-init c = none_yet alone c.args.self.now c.as_slice-name-items.result.now

pub loop-name-preserved : goal.loop-name-preserved
loop-name-preserved c =
    one_more alone c.as_slice-name-items.result.now c.loop-name.name-index c.empty.new.self c.name-item.result (omega arith) c.name-item.is c.loop-name.invariant
    (named c.as_str.result.now c.name-item.result c.as_str.ensures.value c.empty.ensures)

pub returns : goal.returns
returns c = all_items alone c.as_slice-name-items.result.now c.loop-name.name-index c.args.names.now c.loop-name-test.false c.as_slice-name-items.ensures c.loop-name.invariant
