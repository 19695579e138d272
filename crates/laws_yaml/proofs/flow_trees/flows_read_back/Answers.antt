use Rattle.laws_yaml.proofs.FlowLines.{read_back}
use Rattle.laws_yaml.proofs.flow_trees.flows_read_back.Goals as goal

pub returns : goal.returns
returns c = read_back
