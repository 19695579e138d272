use Rattle.laws_yaml.proofs.Pages.{read_back}
use Rattle.laws_yaml.proofs.node_pages.pages_read_back.Goals as goal

pub returns : goal.returns
returns c = read_back
