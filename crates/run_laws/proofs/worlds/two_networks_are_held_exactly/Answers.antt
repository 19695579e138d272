use Rattle.std.proofs.Common.{refl}
use Rattle.std.specs.Fmt.{digits}
use Rattle.run_laws.specs.OneService.{upping}
use Rattle.run_laws.proofs.TwoWorlds.{runs}
use Rattle.run_laws.specs.TwoNetworks.{connects, shop}
use Rattle.run_laws.specs.TwoWorlds.{after, second_moves}
use Rattle.world_laws.proofs.ExactWorlds.{exact_in_each_world}
use Rattle.run_laws.proofs.TwoNetworks.{own, whole}
use Rattle.run_laws.proofs.worlds.two_networks_are_held_exactly.Goals as goal

pub returns : goal.returns
unfolding digits
returns c = record {
  whole = whole;
  own = own;
  run = c.lost_create_is_found.ensures.run;
  sound = refl;
  world = (runs.0, record { journal = refl; world = runs.2.world });
  exact = exact_in_each_world (upping shop) connects runs.0 after second_moves refl whole own c.lost_create_is_found.ensures.run refl (record { journal = refl; world = runs.2.world });
}
