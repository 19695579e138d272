-- After a run of `up` without a fault the Engine holds exactly what is declared, in every world of the run.
use Rattle.run_model.specs.Journals.{Setup}
use Rattle.run_model.specs.Runs.{run_setup}
use Rattle.world_laws.specs.Laws.{ExactInEachWorld}
use Rattle.world_laws.proofs.Containers.{exact_slot, no_others}
use Rattle.world_laws.proofs.Finished.{IsEnded, IsFinished}
use Rattle.world_laws.proofs.Resources.{network_at_end, volume_at_end}
use Rattle.world_laws.proofs.WholeRuns.{is_ended}

pub exact_in_each_world : ExactInEachWorld
exact_in_each_world task journal first last moves up whole own run sound world = record {
  slots = exact_slot task.aim setup first last moves finished;
  networks = network_at_end task.aim setup first last moves finished;
  volumes = volume_at_end task.aim setup first last moves finished;
  others = no_others task.aim setup first last moves finished;
}
  where
    setup : Setup
    setup = run_setup task journal

    ended : IsEnded task.aim setup first moves last
    ended = is_ended task journal first last moves run sound world

    finished : IsFinished task.aim setup first moves last
    finished = record {
      running = record {
        up = up;
        whole = whole;
        own = own;
        plan = ended.way.plan;
        legal = ended.way.legal;
        saw = ended.way.saw;
        world = ended.way.world;
      };
      well = ended.well;
    }
