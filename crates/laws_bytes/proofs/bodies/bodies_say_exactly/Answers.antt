use Rattle.laws_bytes.proofs.Lookups.{bodies}
use Rattle.laws_bytes.proofs.bodies.bodies_say_exactly.Goals as goal

pub returns : goal.returns
returns c = bodies
