use Rattle.circle_laws.proofs.Circles.{meant}
use Rattle.circle_laws.proofs.laws.meant_projects_have_no_circle.Goals as goal

pub returns : goal.returns
returns c = meant
