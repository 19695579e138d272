-- What the rows of workers and the order of polls say of a journal.
use Rattle.std.specs.Prelude.{◌≡◌, ℕ, false, if◌then◌else◌, List, Option, Some, None}
use Rattle.engine_types.specs.declared.Entry.{Entry}
use Rattle.run_model.specs.Journals.{Setup, has_left, has_stopped, holding, is_open, polls}
use Rattle.run_model.specs.Legal.{may_poll}
use Rattle.ledger_rows.specs.declared.worker_row.WorkerRow.{WorkerRow}

-- the key of a slot in the order of polls: how often it was polled, where it may be
abbrev pub watch_key : Setup → List Entry → ℕ → Option ℕ
watch_key setup past s = if may_poll setup past s then Some (polls past s) else None

-- the row of a worker that did nothing yet
abbrev pub no_worker : WorkerRow
no_worker = record { out = false; left = false; stopped = false }

-- a worker's row says whether a permit of it is out, whether it has left, and whether it made its Stop or Late
pub record IsWorkerRow (past : List Entry) (w : ℕ) (row : WorkerRow) : Type 0 where
  pub out_is : row.out ≡ is_open (holding past w)
  pub left_is : row.left ≡ has_left past w
  pub stopped_is : row.stopped ≡ has_stopped past w
