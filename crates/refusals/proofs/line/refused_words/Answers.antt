use Rattle.std.proofs.Common.{◌∙◌, sym}
use Rattle.std.proofs.lemmas.List.{append_assoc}
use Rattle.refusals.proofs.line.refused_words.Goals as goal

pub returns : goal.returns
returns c = c.from_string.ensures ∙ c.in_ok-words.ensures.ok ∙ rw (c.in_ok-request.ensures, c.in_ok-message.ensures.text) (sym (simp append_assoc))
