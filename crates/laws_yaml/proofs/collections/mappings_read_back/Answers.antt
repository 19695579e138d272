use Rattle.laws_yaml.proofs.BlockMappings.{read_back}
use Rattle.laws_yaml.proofs.collections.mappings_read_back.Goals as goal

pub returns : goal.returns
returns c = read_back
