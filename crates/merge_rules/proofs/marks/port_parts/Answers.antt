use Rattle.merge_rules.proofs.EntryMarks.{port_marked}
use Rattle.merge_rules.proofs.marks.port_parts.Goals as goal

pub returns : goal.returns
returns c =
    port_marked c.args.target.now c.args.entries.now _ _ _ _ c.in_ok-mark.ensures c.in_ok-put_field.ensures c.in_ok-put_field-2.ensures c.in_ok-put_protocol.ensures
