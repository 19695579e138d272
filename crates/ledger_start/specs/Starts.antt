-- What a ledger begins with.
use Rattle.std.specs.Prelude.{◌≡◌, ℕ, ◌≤◌, List, [], ◌∷◌, Some, None, get_or, replicate, slice_get}
use Rattle.engine_types.specs.declared.Declared.{Declared}
use Rattle.engine_types.specs.declared.Entry.{Entry}
use Rattle.engine_types.specs.declared.Listed.{Listed}
use Rattle.engine_types.specs.declared.Observed.{Observed}
use Rattle.engine_types.specs.declared.Plan.{Plan}
use Rattle.engine_types.specs.declared.RunLimits.{RunLimits}
use Rattle.engine_types.specs.declared.SeenEnd.{SeenEnd}
use Rattle.run_model.specs.Journals.{Setup}
use Rattle.run_model.specs.Plans.{create_of, make_of}
use Rattle.run_model.specs.Requests.{stop_seconds}
use Rattle.journal_laws.specs.Courses.{setup_of}
use Rattle.ledger_rows.specs.Entries.{RowsSay}
use Rattle.ledger_rows.specs.Workers.{no_worker}
use Rattle.slot_rows.specs.Slots.{AreSlots}
use Rattle.ledger_ends.specs.Dependents.{AreDependents}
use Rattle.ledger_ends.specs.Losses.{HasNoLosses}
use Rattle.ledger_core.specs.declared.places.Places.{Places}
use Rattle.ledger_core.specs.declared.started.Started.{Started}
use Rattle.ledger_core.specs.Beginning.{begun}
use Rattle.ledger_start.specs.Outsets.{HasFewNeeds}
use Rattle.ledger_start.specs.declared.beginning.Opening.{Opening}

-- the containers that an observation saw
abbrev pub containers_of : SeenEnd → List Listed
containers_of (SeenEnd.Good seen) = seen.containers
containers_of (SeenEnd.Bad fault) = []

-- where requests find what they name: creates, makes, and how long each stop waits
pub record ArePlaces (setup : Setup) (places : Places) : Type 0 where
  pub creates : (s : ℕ) → get_or places.creates s None ≡ create_of setup.actions s
  pub makes : (n : ℕ) → get_or places.makes n None ≡ make_of setup.actions n
  pub seconds : (c : ℕ) (row : Listed) → slice_get setup.seen.containers c ≡ Some row
      → slice_get places.seconds c ≡ Some (stop_seconds setup row)

-- the rows say what a journal says that has only its observation; no worker did anything yet, and nothing is lost
pub record AreStarted (setup : Setup) (observed : Observed) (started : Started) : Type 0 where
  pub said : RowsSay setup (Entry.Seen observed ∷ []) started.rows
  pub watched : AreSlots setup (Entry.Seen observed ∷ []) started.slots
  pub idle : started.workers.items ≡ replicate setup.limits.workers no_worker
  pub few_needs : HasFewNeeds setup
  pub fixed : AreDependents setup started.dependents
  pub told : ArePlaces setup started.places
  pub unlost : HasNoLosses setup started.losses

-- all that a ledger begins with but what it is of: its rows, and an empty journal with room for its observation and for two
-- entries of each of 16 workers
pub record IsBegun (declared : Declared) (observed : Observed) (plan : Plan)
    (limits : RunLimits) (opening : Opening) : Type 0 where
  pub started : AreStarted (setup_of (begun declared observed plan limits)) observed opening.started
  pub empty : opening.journal.items ≡ []
  pub room : 33 ≤ opening.journal.spare
