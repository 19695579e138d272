use Rattle.std.proofs.Common.{◌∙◌}
use Rattle.attribute_scalars.proofs.Profiles.{behind_word, without_word}
use Rattle.attribute_scalars.proofs.scalars.has_profile.Goals as goal

pub returns-in-Some : goal.returns-in-Some
returns-in-Some c = c.is_profile.ensures ∙ behind_word c.args.text.now c.args.word.now c.in-Some.profile.now c.in-Some.ensures.cases

pub returns-in-None : goal.returns-in-None
returns-in-None c = without_word c.args.text.now c.args.word.now c.in-None.ensures.cases
