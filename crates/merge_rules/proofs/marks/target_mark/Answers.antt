use Rattle.std.proofs.Common.{sym}
use Rattle.merge_rules.proofs.EntryMarks.{marked_text, no_text}
use Rattle.merge_rules.proofs.marks.target_mark.Goals as goal

pub returns-in-None : goal.returns-in-None
returns-in-None c = no_text _ (sym c.in-None.ensures)

pub returns-in_ok-mark-in-Some : goal.returns-in_ok-mark-in-Some
returns-in_ok-mark-in-Some c = marked_text c.in-Some.target.now c.in_ok-mark-in-Some.mark _ (sym c.in-Some.ensures) c.in_ok-mark-in-Some.ensures
