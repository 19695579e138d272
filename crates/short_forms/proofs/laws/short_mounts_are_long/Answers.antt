use Rattle.short_forms.proofs.MountForms.{short_tree_back}
use Rattle.short_forms.proofs.laws.short_mounts_are_long.Goals as goal

pub returns : goal.returns
returns c = short_tree_back
