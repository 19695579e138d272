use Rattle.run_model.proofs.KeptLaws.{leaves_kept}
use Rattle.run_laws.proofs.laws.kept_are_left_alone.Goals as goal

pub returns : goal.returns
returns c = leaves_kept
