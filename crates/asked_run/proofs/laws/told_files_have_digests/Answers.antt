use Rattle.asked_run.proofs.Told.{told_have}
use Rattle.asked_run.proofs.laws.told_files_have_digests.Goals as goal

pub returns : goal.returns
returns c = told_have
