use Rattle.std.proofs.Common.{Some, refl}
use Rattle.std.specs.Fmt.{digits}
use Rattle.run_laws.specs.OneService.{shop}
use Rattle.run_laws.specs.OtherRuns.{downing, goes_down}
use Rattle.run_laws.specs.OneDown.{after, before, steps}
use Rattle.run_laws.proofs.OneDown.{told}
use Rattle.run_laws.proofs.OneService.{whole}
use Rattle.world_laws.proofs.ToldRuns.{told_runs_have_worlds}
use Rattle.run_laws.proofs.worlds.paused_run_has_a_world.Goals as goal

pub returns : goal.returns
unfolding digits
returns c = record {
  run = c.second_run_and_down.ensures.down;
  exchanges = refl;
  told = told;
  world = told_runs_have_worlds (downing shop) goes_down steps before (Some after) refl whole c.second_run_and_down.ensures.down refl told;
}
