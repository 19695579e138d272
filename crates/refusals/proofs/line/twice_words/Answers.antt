use Rattle.std.proofs.Common.{◌∙◌, sym}
use Rattle.std.proofs.lemmas.List.{append_assoc}
use Rattle.refusals.proofs.line.twice_words.Goals as goal

pub returns : goal.returns
returns c = c.from_string.ensures ∙ c.in_ok-words.ensures.ok ∙ rw (c.in_ok-first.ensures.text, c.as_str.ensures.value, c.in_ok-second.ensures.text, c.as_str-2.ensures.value) (sym (simp append_assoc))
