use Rattle.std.proofs.Common.{◌∙◌, sym}
use Rattle.std.proofs.lemmas.List.{append_assoc}
use Rattle.loading_words.proofs.message.undefined_words.Goals as goal

pub returns : goal.returns
returns c = c.from_string.ensures ∙ c.in_ok-words.ensures.ok ∙ (sym (simp append_assoc))
