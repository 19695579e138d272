use Rattle.std.proofs.Common.{◌∙◌, sym, ap, drop}
use Rattle.yaml_groups.proofs.GroupSteps.{flow_belongs, flow_fits}
use Rattle.yaml_groups.proofs.group.belonging.Goals as goal

pub flow_lines-requires : goal.flow_lines-requires
flow_lines-requires c = flow_fits c.args.head.1 c.args.row.now c.args.rows.now c.text_at-value.result.now c.behind.result.now c.text_at-value.ensures.is c.behind.ensures c.requires

pub returns-then-begins_flow : goal.returns-then-begins_flow
returns-then-begins_flow c =
    let flow = rw c.text_at-value.ensures.is at (sym c.begins_flow.ensures ∙ c.if-begins_flow.true) in
    flow_belongs c.args.head c.args.row.now c.args.rows.now c.behind.result.now _ flow (c.behind.ensures ∙ ap (drop 1) c.text_at-value.ensures.is) c.flow_lines.ensures
