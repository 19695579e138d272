use Rattle.std.proofs.Common.{◌∙◌, sym}
use Rattle.yaml_groups.proofs.GroupSteps.{with_flow}
use Rattle.yaml_groups.proofs.group.with_lines.Goals as goal

pub returns : goal.returns
returns c =
    let flow = rw c.text_at.ensures.is at (sym c.begins_flow.ensures ∙ c.if-not-begins_flow.false) in
    let chars = rw c.as_slice.ensures at c.in_ok-push_lines.ensures in
    with_flow c.args.value c.args.row c.args.lines _ _ flow chars c.new.ensures
