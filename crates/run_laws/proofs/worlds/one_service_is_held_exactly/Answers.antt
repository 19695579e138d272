use Rattle.std.proofs.Common.{refl}
use Rattle.run_laws.specs.OneService.{comes_up, shop, upping}
use Rattle.run_laws.specs.OneWorld.{fresh, moves, up}
use Rattle.world_laws.proofs.ExactWorlds.{exact_in_each_world}
use Rattle.run_laws.proofs.OneService.{own, whole}
use Rattle.run_laws.proofs.worlds.one_service_is_held_exactly.Goals as goal

pub returns : goal.returns
returns c = record {
  whole = whole;
  own = own;
  run = c.one_service_comes_up.ensures.run;
  sound = refl;
  world = c.one_service_is_exact.ensures.world;
  exact = exact_in_each_world (upping shop) comes_up fresh up moves refl whole own c.one_service_comes_up.ensures.run refl c.one_service_is_exact.ensures.world;
}
