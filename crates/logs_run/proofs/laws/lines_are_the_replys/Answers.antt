use Rattle.logs_run.proofs.Lines.{lines_are}
use Rattle.logs_run.proofs.laws.lines_are_the_replys.Goals as goal

pub returns : goal.returns
returns c = lines_are
