use Rattle.short_forms.proofs.PortTrees.{texts_back}
use Rattle.short_forms.proofs.laws.short_ports_read_back.Goals as goal

pub returns : goal.returns
returns c = texts_back
