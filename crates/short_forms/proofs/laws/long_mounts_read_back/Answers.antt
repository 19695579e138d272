use Rattle.short_forms.proofs.MountForms.{tree_back}
use Rattle.short_forms.proofs.laws.long_mounts_read_back.Goals as goal

pub returns : goal.returns
returns c = tree_back
