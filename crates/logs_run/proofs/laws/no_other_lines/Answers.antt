use Rattle.logs_run.proofs.Others.{no_others}
use Rattle.logs_run.proofs.laws.no_other_lines.Goals as goal

pub returns : goal.returns
returns c = no_others
