use Rattle.laws_bytes.proofs.Tells.{connections}
use Rattle.laws_bytes.proofs.differences.bodies_tell_connections.Goals as goal

pub returns : goal.returns
returns c = connections
