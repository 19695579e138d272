use Rattle.project_pages.proofs.Records.{check_put}
use Rattle.project_pages.proofs.rows.check_node.Goals as goal

pub returns : goal.returns
returns c =
    rw (c.in_ok-put_duration_if-4.ensures, c.in_ok-put_texts_if.ensures, c.in_ok-put_duration_if-3.ensures, c.in_ok-put_duration_if-2.ensures, c.in_ok-put_number_if.ensures, c.in_ok-put_duration_if.ensures, c.in_ok-put_bool_if.ensures, c.new-entries.ensures)
    (check_put c.args.check.now)
