-- The laws of a ledger.
use Rattle.std.specs.Prelude.{◌≡◌, ℕ, ◌+◌, ◌≤◌, Bool, false, true, List, [], ◌∷◌, ◌++◌, get_or, reverse, set}
use Rattle.engine_types.specs.declared.Aim.{Aim}
use Rattle.tree_base.specs.Reserved.{Reserved}
use Rattle.engine_types.specs.declared.Entry.{Entry}
use Rattle.engine_types.specs.declared.Outcome.{Outcome}
use Rattle.run_model.specs.Journals.{Setup, Work, ended_as, holding, is_well}
use Rattle.run_model.specs.Plans.{kind_of}
use Rattle.journal_laws.specs.Courses.{Course, MayAsk, grown}
use Rattle.journal_laws.specs.Laws.{IsLegalRun, decided}
use Rattle.ledger_rows.specs.ActionRows.Values.{Actions}
use Rattle.ledger_rows.specs.Entries.{RowsSay}
use Rattle.ledger_rows.specs.Workers.{no_worker}
use Rattle.ledger_rows.specs.declared.worker_row.WorkerRow.{WorkerRow}
use Rattle.slot_rows.specs.declared.slot_row.SlotRow.{SlotRow}
use Rattle.ledger_core.specs.Answers.{Answers, answer_entry}
use Rattle.ledger_core.specs.Ledgers.{IsLedger, StartsAreSingle, counting}
use Rattle.ledger_core.specs.declared.asked.Asked.{Asked}

-- whatever a worker that may call is answered, the journal stays legal with the entry that the answer leaves
abbrev pub AnswersAreLegal : Type 0
AnswersAreLegal = (aim : Aim) (run : Course) (w : ℕ) (answer : Asked) → IsLegalRun aim run
    → MayAsk run w → Answers w (decided run w) answer
    → IsLegalRun aim (grown run (answer_entry w (decided run w) answer))

-- after the good end of an action that a worker holds, a ledger's rows say what its journal says, where those of the actions
-- do, reports on the slot that the action starts count, and the worker's permit isn't out any more
abbrev pub GoodEndsKeepLedgers : Type 0
GoodEndsKeepLedgers = (setup : Setup) (journal next : Reserved Entry) (rows new : Actions)
    (slots : List SlotRow) (workers : List WorkerRow) (ending : Bool) (w a : ℕ) (outcome : Outcome)
    → IsLedger setup journal rows slots workers ending → StartsAreSingle setup
    → holding (reverse journal.items) w ≡ Work a
    → is_well (ended_as (kind_of setup.actions a) outcome) ≡ true
    → RowsSay setup (journal.items ++ Entry.Ended w outcome ∷ []) new
    → next.items ≡ journal.items ++ Entry.Ended w outcome ∷ []
    → journal.spare ≤ next.spare + 1
    → IsLedger setup next new (counting (kind_of setup.actions a) slots)
    (set workers w (record (get_or workers w no_worker) { out = false })) ending
