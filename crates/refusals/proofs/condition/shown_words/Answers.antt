use Rattle.std.proofs.Common.{◌∙◌, sym}
use Rattle.std.proofs.lemmas.List.{append_assoc}
use Rattle.refusals.proofs.condition.shown_words.Goals as goal

pub returns : goal.returns
returns c = c.from_string.ensures ∙ c.in_ok-words.ensures.ok ∙ rw (c.condition_words-condition.ensures, c.in_ok-report.ensures) (sym (simp append_assoc))
