use Rattle.circle_laws.proofs.Circles.{loaded_so}
use Rattle.circle_laws.proofs.laws.loaded_projects_have_no_circle.Goals as goal

pub returns : goal.returns
returns c = loaded_so
