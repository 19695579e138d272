use Rattle.laws_yaml.proofs.FlowBytes.{printed_back}
use Rattle.laws_yaml.proofs.flow_trees.printed_flows_read_back.Goals as goal

pub returns : goal.returns
returns c = printed_back
