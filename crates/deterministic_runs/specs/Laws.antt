-- The law of the one journal.
use Rattle.std.specs.Prelude.{◌≡◌, List, None}
use Rattle.engine_types.specs.declared.Entry.{Entry}
use Rattle.run_model.specs.Runs.{Task}
use Rattle.deterministic_runs.specs.Allowed.{IsAllowed, Rules, Stand}

-- two journals of a task of one worker without a deadline that an Engine allows whose answers are determined are the same
abbrev pub OneJournal : Type 0
OneJournal =
    (rules : Rules) (start : Stand) (task : Task) (one other : List Entry)
    → task.limits.workers ≡ 1 → task.limits.deadline ≡ None
    → IsAllowed rules start task one → IsAllowed rules start task other → one ≡ other
