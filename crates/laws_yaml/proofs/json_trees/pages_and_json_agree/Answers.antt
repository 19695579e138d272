use Rattle.laws_yaml.proofs.JsonFiles.{printed_agree}
use Rattle.laws_yaml.proofs.json_trees.pages_and_json_agree.Goals as goal

pub returns : goal.returns
returns c = printed_agree
