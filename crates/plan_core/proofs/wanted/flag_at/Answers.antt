-- The flag is what stands there, if any.
use Rattle.std.proofs.Common.{Bool, false, Option, ap, unwrap_or}
use Rattle.plan_core.proofs.wanted.flag_at.Goals as goal

pub returns-in-Some : goal.returns-in-Some
returns-in-Some c = ap (λ (o : Option Bool). unwrap_or o false) c.in-Some.ensures

pub returns-in-None : goal.returns-in-None
returns-in-None c = ap (λ (o : Option Bool). unwrap_or o false) c.in-None.ensures
