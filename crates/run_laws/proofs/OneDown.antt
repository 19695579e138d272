-- The world of the run that takes one service down.
use Rattle.std.proofs.Common.{◌≡◌, ℕ, zero, suc, List, [], ◌∷◌, Option, Some, None, Bool, true, false, refl, drop, inl, inr}
use Rattle.std.specs.Fmt.{digits}
use Rattle.std.specs.List.{IsDistinct}
use Rattle.std.specs.Prelude.{codes, if◌then◌else◌, not}
use Rattle.std.specs.Str.{bytes_eq}
use Rattle.engine_types.specs.declared.ContainerRow.{ContainerRow}
use Rattle.engine_types.specs.declared.Listed.{Listed}
use Rattle.run_model.specs.EngineRules.{Among, ChangesItself, ListsContainers, Shows, TellsSteps, Updates, container_at, is_live, is_of_project, stopped_row}
use Rattle.run_model.specs.Journals.{Setup}
use Rattle.run_laws.specs.OneService.{shop}
use Rattle.run_laws.specs.OtherRuns.{downing, goes_down, running}
use Rattle.run_model.specs.Runs.{IsWorldOfRun, run_setup}
use Rattle.run_model.specs.Worlds.{World}
use Rattle.run_laws.specs.OneDown.{after, before, between, moves, restarting, restarts, runs, steps}

-- the container that is there is the one that runs
only_one : (id : List ℕ) (row : ContainerRow) → container_at before id ≡ Some row → row ≡ runs
only_one id row e = at (bytes_eq (codes "c1") id) e
  where
    at : (t : Bool) → (if t then Some runs else None) ≡ Some row → row ≡ runs
    at true k = cc k
    at false k = absurd (cc k)

shown : Shows before runs running
shown = record { id = refl; name = refl; image_id = refl; labels = refl; state = refl; networks = λ n. refl }

lists : ListsContainers before (codes "shop") (running ∷ [])
unfolding IsDistinct
lists = record { distinct = (tt, tt); shown = each; all = all }
  where
    each : (listed : Listed) → Among (running ∷ []) listed → (row : ContainerRow)
        × (container_at before listed.id ≡ Some row) × (is_of_project (codes "shop") row.labels ≡ true) × Shows before row listed
    each listed (inl e) = rw e (runs, refl, refl, shown)
    each listed (inr m) = absurd m

    all : (id : List ℕ) (row : ContainerRow) → container_at before id ≡ Some row → is_of_project (codes "shop") row.labels ≡ true
        → (listed : Listed) × Among (running ∷ []) listed × Shows before row listed
    all id row e p = (running, inl refl, rw (only_one id row e) shown)

-- a container takes another's place, or goes
stopped : Updates before between (codes "c1") is_live (λ row. Some (stopped_row row))
stopped = record {
  row = runs;
  was = refl;
  could = refl;
  changes = record { containers = λ i. at (bytes_eq (codes "c1") i); networks = λ i. refl; volumes = λ n. refl; images = λ n. refl };
}
  where
    at : (t : Bool) → (if t then Some (stopped_row runs) else None) ≡ (if t then Some (stopped_row runs) else (if t then Some runs else None))
    at true = refl
    at false = refl

gone : Updates between after (codes "c1") (λ state. not (is_live state)) (λ row. None)
gone = record {
  row = stopped_row runs;
  was = refl;
  could = refl;
  changes = record { containers = λ i. at (bytes_eq (codes "c1") i); networks = λ i. refl; volumes = λ n. refl; images = λ n. refl };
}
  where
    nothing : Option ContainerRow
    nothing = None

    at : (t : Bool) → nothing ≡ (if t then nothing else (if t then Some (stopped_row runs) else nothing))
    at true = refl
    at false = refl

abbrev setup : Setup
setup = run_setup (downing shop) goes_down

listed : World setup before (drop 8 moves) before
unfolding digits
listed = (before, refl, (record { may_act = refl; no_effect = refl }, (lists, refl)))

seen : World setup before (drop 7 moves) before
unfolding digits
seen = (before, listed, ((refl, refl, refl), refl))

claimed_stop : World setup before (drop 6 moves) before
unfolding digits
claimed_stop = (before, seen, (tt, refl))

is_stopped : World setup before (drop 5 moves) between
unfolding digits
is_stopped = (before, claimed_stop, (record { may_act = (refl, refl); no_effect = refl }, stopped))

stop_told : World setup before (drop 4 moves) between
unfolding digits
stop_told = (between, is_stopped, (refl, refl))

claimed_remove : World setup before (drop 3 moves) between
unfolding digits
claimed_remove = (between, stop_told, (tt, refl))

is_removed : World setup before (drop 2 moves) after
unfolding digits
is_removed = (between, claimed_remove, (record { may_act = (refl, refl); no_effect = refl }, gone))

remove_told : World setup before (drop 1 moves) after
unfolding digits
remove_told = (after, is_removed, (refl, refl))

left : World setup before moves after
unfolding digits
left = (after, remove_told, (tt, refl))

pub world : IsWorldOfRun (downing shop) goes_down before moves after
unfolding digits
world = record { journal = refl; world = left }

-- the container is restarted by itself
turned : ChangesItself before restarts
turned = record {
  id = codes "c1";
  row = runs;
  report = restarting.report;
  was = refl;
  turns = inl (refl, refl, λ e. cc e);
  changes = record { containers = λ i. at (bytes_eq (codes "c1") i); networks = λ i. refl; volumes = λ n. refl; images = λ n. refl };
}
  where
    at : (t : Bool) → (if t then Some restarting else None) ≡ (if t then Some restarting else (if t then Some runs else None))
    at true = refl
    at false = refl

-- and then stopped
stopped_then : Updates restarts between (codes "c1") is_live (λ row. Some (stopped_row row))
stopped_then = record {
  row = restarting;
  was = refl;
  could = refl;
  changes = record { containers = λ i. at (bytes_eq (codes "c1") i); networks = λ i. refl; volumes = λ n. refl; images = λ n. refl };
}
  where
    at : (t : Bool) → (if t then Some (stopped_row runs) else None) ≡ (if t then Some (stopped_row runs) else (if t then Some restarting else None))
    at true = refl
    at false = refl

-- the hand's Engine went through its steps
pub told : TellsSteps steps (Some before) (Some after)
told = (Some before, (lists, refl), (Some restarts, (suc zero, (before, refl, turned)), (Some between, stopped_then, (Some after, gone, refl))))
