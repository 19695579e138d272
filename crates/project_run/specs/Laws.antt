-- Laws of whole runs.
use Rattle.std.specs.Prelude.{◌≡◌, List, true}
use Rattle.engine_types.specs.declared.Entry.{Entry}
use Rattle.project_run.specs.Whole.{SparesKept}
use Rattle.run_model.specs.Observation.{is_up}
use Rattle.run_model.specs.Plans.{HasServices}
use Rattle.run_model.specs.Runs.{IsRun, Task}

-- every run of `up` over a set whose slots are of declared services leaves kept containers alone
abbrev pub RunsSpareKept : Type 0
RunsSpareKept =
    (task : Task) (journal : List Entry) → is_up task.aim.purpose ≡ true → HasServices task.declared
    → IsRun task journal → SparesKept task journal
