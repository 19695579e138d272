use Rattle.laws_yaml.proofs.Sequences.{read_back}
use Rattle.laws_yaml.proofs.collections.sequences_read_back.Goals as goal

pub returns : goal.returns
returns c = read_back
