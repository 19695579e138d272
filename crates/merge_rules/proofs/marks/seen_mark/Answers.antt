use Rattle.merge_rules.proofs.EntryMarks.{marked_text, no_text}
use Rattle.merge_rules.proofs.marks.seen_mark.Goals as goal

pub returns-in-None : goal.returns-in-None
returns-in-None c = no_text _ (c.in-None.ensures c.args.folder.now)

pub returns-in_ok-mark-in-Some : goal.returns-in_ok-mark-in-Some
returns-in_ok-mark-in-Some c = marked_text _ c.in_ok-mark-in-Some.mark _ (c.in-Some.ensures c.args.folder.now) c.in_ok-mark-in-Some.ensures
