use Rattle.laws_pages.proofs.PagesMean.{pages_mean}
use Rattle.laws_pages.proofs.pages.pages_mean_their_projects.Goals as goal

pub returns : goal.returns
returns c = pages_mean
