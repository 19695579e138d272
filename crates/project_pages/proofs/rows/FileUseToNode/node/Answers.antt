use Rattle.project_pages.proofs.Records.{file_use_put}
use Rattle.project_pages.proofs.rows.FileUseToNode.node.Goals as goal

pub returns : goal.returns
returns c =
    rw (c.in_ok-put_text_if-3.ensures, c.in_ok-put_text-2.ensures, c.in_ok-put_text.ensures, c.in_ok-put_text_if-2.ensures, c.in_ok-put_text_if.ensures, c.new-entries.ensures, c.as_str.ensures.value, c.as_str-2.ensures.value)
    (file_use_put c.args.self.now)
