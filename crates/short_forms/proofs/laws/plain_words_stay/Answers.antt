use Rattle.short_forms.proofs.QuoteLemmas.{plain_words}
use Rattle.short_forms.proofs.laws.plain_words_stay.Goals as goal

pub returns : goal.returns
returns c = plain_words
