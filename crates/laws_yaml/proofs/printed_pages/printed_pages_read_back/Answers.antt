use Rattle.laws_yaml.proofs.PrintedPages.{printed_back}
use Rattle.laws_yaml.proofs.printed_pages.printed_pages_read_back.Goals as goal

pub returns : goal.returns
returns c = printed_back
