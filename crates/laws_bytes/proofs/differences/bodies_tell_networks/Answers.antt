use Rattle.laws_bytes.proofs.Tells.{networks}
use Rattle.laws_bytes.proofs.differences.bodies_tell_networks.Goals as goal

pub returns : goal.returns
returns c = networks
