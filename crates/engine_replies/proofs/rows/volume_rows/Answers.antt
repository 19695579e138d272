use Rattle.std.proofs.Common.{◌∙◌, ℕ, List, ap, arith, codes}
use Rattle.serde_json.specs.Data.{string}
use Rattle.engine_replies.specs.Values.{object_with, volume_value}
use Rattle.engine_replies.proofs.Tables.{all_values, one_value}
use Rattle.engine_replies.proofs.rows.volume_rows.Goals as goal

pub loop-name-preserved : goal.loop-name-preserved
loop-name-preserved c =
    one_value volume_value c.as_slice-name-items.result.now c.loop-name.name-index c.name-item.result c.loop-name.items.items c.push.new.list.items c.in_ok-value.value (omega arith) c.name-item.is
    c.loop-name.invariant (c.in_ok-value.ensures ∙ ap (λ (t : List ℕ). object_with (codes "Name") (string t)) c.as_str.ensures.value) c.in_ok-push.ensures.ok

pub returns : goal.returns
returns c =
    c.from.ensures
    ∙ all_values volume_value c.as_slice-name-items.result.now c.loop-name.name-index c.args.names.now c.loop-name.items.items c.loop-name-test.false c.as_slice-name-items.ensures c.loop-name.invariant
