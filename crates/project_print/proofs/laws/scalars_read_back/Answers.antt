use Rattle.project_print.proofs.ReadBack.{scalars}
use Rattle.project_print.proofs.laws.scalars_read_back.Goals as goal

pub returns : goal.returns
returns c = scalars
