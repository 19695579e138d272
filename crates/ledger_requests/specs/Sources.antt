-- Where the requests of a run find what they name.
use Rattle.std.specs.Prelude.{◌≡◌, ℕ, List, Option, Some, None, get_or, option_and_then, reverse, slice_get}
use Rattle.engine_types.specs.declared.Entry.{Entry}
use Rattle.engine_types.specs.declared.Listed.{Listed}
use Rattle.engine_types.specs.declared.Outcome.{Outcome}
use Rattle.run_model.specs.Journals.{Setup, Well}
use Rattle.run_model.specs.Plans.{AreKeptPlaces, create_of, make_of}
use Rattle.run_model.specs.Requests.{made_id, stop_seconds}
use Rattle.run_requests.specs.Asking.{Ids}
use Rattle.run_requests.specs.Setups.{setup_of}
use Rattle.ledger_rows.specs.ActionRows.{state_at}
use Rattle.ledger_rows.specs.Entries.{RowsSay}
use Rattle.ledger_rows.specs.declared.action_rows.State.{State}
use Rattle.ledger_requests.specs.declared.sources.Sources.{Sources}

-- what the run is of
abbrev pub setup_in : Sources → Setup
setup_in sources = setup_of sources.run

-- its journal, newest entry first
abbrev pub past_in : Sources → List Entry
past_in sources = reverse sources.journal.now

-- the rows say what the journal says, the plan's places are those of the containers that the slots keep, and the others are
-- the creates, the makes, and how long each stop waits
pub record AreSources (sources : Sources) : Type 0 where
  pub said : RowsSay (setup_in sources) sources.journal.now sources.rows.now
  pub kept : AreKeptPlaces sources.run.declared.now sources.run.seen.now
      sources.run.plan.now.kept
  pub creates : (s : ℕ) → get_or sources.creates.now s None
      ≡ create_of sources.run.plan.now.actions s
  pub makes : (n : ℕ) → get_or sources.makes.now n None
      ≡ make_of sources.run.plan.now.actions n
  pub seconds : (c : ℕ) (row : Listed)
      → slice_get sources.run.seen.now.containers c ≡ Some row
      → slice_get sources.seconds.now c ≡ Some (stop_seconds (setup_in sources) row)

-- the id that an outcome tells
abbrev pub id_of : Outcome → Option (List ℕ)
id_of (Outcome.Answered reply) = made_id (Well reply)
id_of _ = None

-- the id that an entry tells
abbrev pub id_in : Option Entry → Option (List ℕ)
id_in (Some (Entry.Ended w outcome)) = id_of outcome
id_in _ = None

-- the id that an action was told which stands so
abbrev pub told_by : List Entry → State → Option (List ℕ)
told_by journal (State.Well at) = id_in (slice_get journal at)
told_by journal _ = None

-- what the sources tell
abbrev pub ids_in : Sources → Ids
ids_in sources = record {
  kept_by = λ s. option_and_then (slice_get sources.run.seen.now.containers)
      (get_or sources.run.plan.now.kept s None);
  waits = λ c. slice_get sources.seconds.now c;
  creator = λ s. get_or sources.creates.now s None;
  maker = λ n. get_or sources.makes.now n None;
  told = λ a. told_by sources.journal.now (state_at sources.rows.now a);
}
