use Rattle.std.proofs.Common.{refl}
use Rattle.std.specs.Fmt.{digits}
use Rattle.run_laws.specs.OneService.{shop}
use Rattle.run_laws.specs.OtherRuns.{downing, goes_down}
use Rattle.run_laws.specs.OneDown.{after, before, moves}
use Rattle.world_laws.proofs.GoneWorlds.{gone_in_each_world}
use Rattle.run_laws.proofs.OneDown.{world}
use Rattle.run_laws.proofs.OneService.{whole}
use Rattle.run_laws.proofs.worlds.one_service_is_gone.Goals as goal

pub returns : goal.returns
unfolding digits
returns c = record {
  whole = whole;
  run = c.second_run_and_down.ensures.down;
  sound = refl;
  world = world;
  gone = gone_in_each_world (downing shop) goes_down before after moves refl whole c.second_run_and_down.ensures.down refl world;
}
