use Rattle.laws_attributes.proofs.Placed.{forms_are_free}
use Rattle.laws_attributes.proofs.forms.forms_are_free.Goals as goal

pub returns : goal.returns
returns c = forms_are_free
