use Rattle.long_forms.proofs.LongStays.{long_forms_stay}
use Rattle.long_forms.proofs.laws.long_forms_stay.Goals as goal

pub returns : goal.returns
returns c = long_forms_stay
