use Rattle.project_pages.proofs.Records.{need_put}
use Rattle.project_pages.proofs.rows.DependencyToNode.node.Goals as goal

pub returns : goal.returns
returns c =
    rw (c.in_ok-put_flag.ensures, c.in_ok-put_bool.ensures, c.in_ok-put_text.ensures, c.new-entries.ensures, c.condition_word.ensures)
    (need_put c.args.self.now)
