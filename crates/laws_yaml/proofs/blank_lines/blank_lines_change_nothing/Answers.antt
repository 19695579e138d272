use Rattle.laws_yaml.proofs.BlankLines.{change_nothing}
use Rattle.laws_yaml.proofs.blank_lines.blank_lines_change_nothing.Goals as goal

pub returns : goal.returns
returns c = change_nothing
