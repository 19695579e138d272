use Rattle.laws_bytes.proofs.Tells.{volumes}
use Rattle.laws_bytes.proofs.differences.bodies_tell_volumes.Goals as goal

pub returns : goal.returns
returns c = volumes
