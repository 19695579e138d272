use Rattle.short_forms.proofs.QuoteLemmas.{spelled_words}
use Rattle.short_forms.proofs.laws.spelled_words_read.Goals as goal

pub returns : goal.returns
returns c = spelled_words
