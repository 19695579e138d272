use Rattle.project_pages.proofs.Records.{port_put}
use Rattle.project_pages.proofs.rows.PortToNode.node.Goals as goal

pub returns : goal.returns
returns c =
    rw (c.in_ok-put_number.ensures, c.in_ok-put_text_if-2.ensures, c.in_ok-put_text.ensures, c.in_ok-put_text_if.ensures, c.new-entries.ensures, c.as_str.ensures.value, c.from.ensures)
    (port_put c.args.self.now)
