use Rattle.laws_yaml.proofs.FlowLines.{agree}
use Rattle.laws_yaml.proofs.flow_trees.blocks_and_flows_agree.Goals as goal

pub returns : goal.returns
returns c = agree
