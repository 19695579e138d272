use Rattle.short_forms.proofs.PrintedLemmas.{decimals}
use Rattle.short_forms.proofs.laws.decimals_read_back.Goals as goal

pub returns : goal.returns
returns c = decimals
