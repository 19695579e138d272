use Rattle.project_pages.proofs.Records.{logging_put}
use Rattle.project_pages.proofs.rows.logging_node.Goals as goal

pub returns : goal.returns
returns c =
    rw (c.in_ok-put_pairs.ensures, c.in_ok-put_text_if.ensures, c.new-entries.ensures)
    (logging_put c.args.logging.now)
