use Rattle.laws_pages.proofs.ProjectPages.{printed_mean}
use Rattle.laws_pages.proofs.json_pages.printed_pages_mean_their_projects.Goals as goal

pub returns : goal.returns
returns c = printed_mean
