use Rattle.compose_config.proofs.Lines.{pages}
use Rattle.compose_config.proofs.laws.pages_have_their_lines.Goals as goal

pub returns : goal.returns
returns c = pages
