use Rattle.short_forms.proofs.PrintedLemmas.{sizes}
use Rattle.short_forms.proofs.laws.sizes_read_back.Goals as goal

pub returns : goal.returns
returns c = sizes
