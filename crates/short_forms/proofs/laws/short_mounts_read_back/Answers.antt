use Rattle.short_forms.proofs.MountForms.{text_back}
use Rattle.short_forms.proofs.laws.short_mounts_read_back.Goals as goal

pub returns : goal.returns
returns c = text_back
