use Rattle.yaml_lines.proofs.LineLemmas.{lines_joined}
use Rattle.yaml_lines.proofs.laws.lines_are_the_text.Goals as goal

pub returns : goal.returns
returns c = lines_joined
