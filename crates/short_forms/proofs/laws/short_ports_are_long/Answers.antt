use Rattle.short_forms.proofs.PortTrees.{trees_back}
use Rattle.short_forms.proofs.laws.short_ports_are_long.Goals as goal

pub returns : goal.returns
returns c = trees_back
