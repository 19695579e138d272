use Rattle.project_pages.proofs.Records.{mount_put}
use Rattle.project_pages.proofs.rows.MountToNode.node.Goals as goal

pub returns : goal.returns
returns c =
    rw (c.in_ok-put_text-2.ensures, c.in_ok-put_text.ensures, c.in_ok-put_text_if.ensures, c.in_ok-put_flag.ensures, c.in_ok-put_label.ensures, c.new-entries.ensures, c.as_str.ensures.value, c.word.ensures)
    (mount_put c.args.self.now)
