use Rattle.laws_bytes.proofs.Tells.{containers}
use Rattle.laws_bytes.proofs.differences.bodies_tell_containers.Goals as goal

pub returns : goal.returns
returns c = containers
