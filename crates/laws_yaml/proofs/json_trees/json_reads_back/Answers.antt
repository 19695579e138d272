use Rattle.laws_yaml.proofs.JsonLines.{read_back}
use Rattle.laws_yaml.proofs.json_trees.json_reads_back.Goals as goal

pub returns : goal.returns
returns c = read_back
