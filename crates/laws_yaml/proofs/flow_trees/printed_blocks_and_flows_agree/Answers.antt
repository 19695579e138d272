use Rattle.laws_yaml.proofs.FlowBytes.{printed_agree}
use Rattle.laws_yaml.proofs.flow_trees.printed_blocks_and_flows_agree.Goals as goal

pub returns : goal.returns
returns c = printed_agree
