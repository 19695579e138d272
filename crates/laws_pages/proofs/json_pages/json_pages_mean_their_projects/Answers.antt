use Rattle.laws_pages.proofs.ProjectPages.{pages_mean}
use Rattle.laws_pages.proofs.json_pages.json_pages_mean_their_projects.Goals as goal

pub returns : goal.returns
returns c = pages_mean
