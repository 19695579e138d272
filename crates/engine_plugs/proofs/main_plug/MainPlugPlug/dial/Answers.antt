use Rattle.std.proofs.Common.{arith, refl}
use Rattle.engine_plugs.proofs.main_plug.MainPlugPlug.dial.Goals as goal

pub overflow_add-self : goal.overflow_add-self
overflow_add-self g c = omega (arith, c.requires _ refl, c.hand_for.ensures.dialled)
