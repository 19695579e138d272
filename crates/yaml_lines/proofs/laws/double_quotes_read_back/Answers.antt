use Rattle.yaml_lines.proofs.QuoteLemmas.{double_quotes}
use Rattle.yaml_lines.proofs.laws.double_quotes_read_back.Goals as goal

pub returns : goal.returns
returns c = double_quotes
