use Rattle.laws_pages.proofs.ProjectPages.{both_agree}
use Rattle.laws_pages.proofs.json_pages.project_pages_agree.Goals as goal

pub returns : goal.returns
returns c = both_agree
