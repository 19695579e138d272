use Rattle.laws_runs.proofs.Prepared.{may_begin}
use Rattle.laws_runs.proofs.beginnings.runs_may_begin.Goals as goal

pub returns : goal.returns
returns c = may_begin
