use Rattle.project_print.proofs.ReadBack.{dollars}
use Rattle.project_print.proofs.laws.dollars_read_back.Goals as goal

pub returns : goal.returns
returns c = dollars
