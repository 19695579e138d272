-- What the rows of actions say of a journal, and what an entry is of that changes them.
use Rattle.std.specs.Prelude.{◌≡◌, ℕ, ◌<◌, ◌==◌, List, Some, length, reverse, slice_get}
use Rattle.engine_types.specs.declared.Aim.{Aim}
use Rattle.engine_types.specs.declared.Entry.{Entry}
use Rattle.engine_types.specs.declared.Outcome.{Outcome}
use Rattle.engine_types.specs.declared.Reply.{Reply}
use Rattle.run_model.specs.Journals.{Setup, Work, holding}
use Rattle.run_model.specs.Legal.{IsLegal}
use Rattle.ledger_rows.specs.ActionRows.Values.{Actions}
use Rattle.ledger_rows.specs.Counts.{counted}
use Rattle.ledger_rows.specs.Facts.{facts_of, released_by}
use Rattle.ledger_rows.specs.Rows.{AreRows}

-- the rows of the actions say what a journal says, oldest entry first
abbrev pub RowsSay : Setup → List Entry → Actions → Type 0
RowsSay setup journal rows = AreRows setup (facts_of setup (reverse journal)) journal rows

-- a run's journal
pub record Page : Type 0 where
  pub setup : Setup
  pub journal : List Entry

-- a run's journal, and the end that comes next: whose it is, and what came of it
pub record Ending : Type 0 where
  pub setup : Setup
  pub journal : List Entry
  pub worker : ℕ
  pub outcome : Outcome

-- a run's journal, and the good end that comes next: whose it is, and its reply
pub record GoodEnding : Type 0 where
  pub setup : Setup
  pub journal : List Entry
  pub worker : ℕ
  pub reply : Reply

-- in a legal journal this worker holds this action
pub record IsDueTo (setup : Setup) (journal : List Entry) (w a : ℕ) : Type 0 where
  pub aim : Aim
  pub legal : IsLegal aim setup (reverse journal)
  pub held : holding (reverse journal) w ≡ Work a

-- those that an action's good end lets go, as often as it does
pub record AreReleased (setup : Setup) (a : ℕ) (released : List ℕ) : Type 0 where
  pub there : (i b : ℕ) → slice_get released i ≡ Some b → b < length setup.actions
  pub each : (b : ℕ) → counted (λ c. c == b) released ≡ released_by setup a b
