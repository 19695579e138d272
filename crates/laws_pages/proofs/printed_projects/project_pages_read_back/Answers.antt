use Rattle.laws_pages.proofs.Loads.{page_back}
use Rattle.laws_pages.proofs.printed_projects.project_pages_read_back.Goals as goal

pub returns : goal.returns
returns c = page_back
