use Rattle.laws_yaml.proofs.JsonFiles.{printed_back}
use Rattle.laws_yaml.proofs.json_trees.printed_json_reads_back.Goals as goal

pub returns : goal.returns
returns c = printed_back
