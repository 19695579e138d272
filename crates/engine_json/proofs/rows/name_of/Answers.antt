use Rattle.std.proofs.Common.{◌∙◌, ap, Some}
use Rattle.engine_json.proofs.Bodies.{named}
use Rattle.serde_json.specs.View.{view}
use Rattle.engine_json.proofs.rows.name_of.Goals as goal

pub returns : goal.returns
returns c =
    ap Some c.without_slash.ensures
    ∙ named (view c.args.value.now) (view c.in_ok-get.field-0.now) c.in_ok-as_array.field-0.now.items c.in_ok-first.field-0.now c.in_ok-name.name.now c.in_ok-get.ensures c.in_ok-as_array.ensures
    (rw c.deref.ensures.value at c.in_ok-first.ensures.value) c.in_ok-name.ensures
