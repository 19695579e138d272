use Rattle.laws_yaml.proofs.TextPages.{read_back}
use Rattle.laws_yaml.proofs.text_pages.text_pages_read_back.Goals as goal

pub returns : goal.returns
returns c = read_back
