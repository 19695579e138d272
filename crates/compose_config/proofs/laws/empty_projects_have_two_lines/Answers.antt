use Rattle.compose_config.proofs.Lines.{empty_pages}
use Rattle.compose_config.proofs.laws.empty_projects_have_two_lines.Goals as goal

pub returns : goal.returns
returns c = empty_pages
