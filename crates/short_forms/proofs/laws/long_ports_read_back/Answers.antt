use Rattle.short_forms.proofs.PortTrees.{tree_back}
use Rattle.short_forms.proofs.laws.long_ports_read_back.Goals as goal

pub returns : goal.returns
returns c = tree_back
