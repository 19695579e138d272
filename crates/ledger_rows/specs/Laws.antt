-- Laws of rows of actions.
use Rattle.std.specs.Prelude.{◌≡◌, ℕ, Bool, true, false, List, [], ◌∷◌, ◌++◌, find}
use Rattle.engine_types.specs.declared.Entry.{Entry}
use Rattle.run_model.specs.Conditions.{is_blocked}
use Rattle.run_model.specs.Journals.{Setup}
use Rattle.run_model.specs.Legal.{next_action}
use Rattle.run_model.specs.Plans.{IsOrderly}
use Rattle.ledger_rows.specs.ActionRows.{is_ready, numbers}
use Rattle.ledger_rows.specs.ActionRows.Values.{Actions}
use Rattle.ledger_rows.specs.Entries.{RowsSay}
use Rattle.ledger_rows.specs.Facts.{AreBlocked, AreSound, facts_of}
use Rattle.ledger_rows.specs.Rows.{AreRows}

-- in an orderly plan, rows that say what the entries say have the next action as their first ready one
abbrev pub ReadyIsNext : Type 0
ReadyIsNext = (setup : Setup) (past journal : List Entry) (rows : Actions)
    → IsOrderly setup.declared setup.actions
    → AreSound setup (facts_of setup past)
    → AreRows setup (facts_of setup past) journal rows
    → find (is_ready rows) (numbers rows) ≡ next_action setup past

-- in an orderly plan, what is blocked is an answer to its equation, and each other answer is the same
abbrev pub BlockedIsTheOneAnswer : Type 0
BlockedIsTheOneAnswer = (setup : Setup) (past : List Entry)
    → IsOrderly setup.declared setup.actions
    → AreBlocked setup (facts_of setup past) (is_blocked setup past)
    × ((blocked : ℕ → Bool) → AreBlocked setup (facts_of setup past) blocked
    → (a : ℕ) → blocked a ≡ is_blocked setup past a)

-- whether an entry is neither a claim nor an end
abbrev pub is_quiet : Entry → Bool
is_quiet (Entry.Claim w a) = false
is_quiet (Entry.Ended w outcome) = false
is_quiet _ = true

-- rows that say what a journal says do with such an entry more
abbrev pub QuietEntriesKeepRows : Type 0
QuietEntriesKeepRows = (setup : Setup) (journal : List Entry) (entry : Entry) (rows : Actions)
    → is_quiet entry ≡ true → RowsSay setup journal rows
    → RowsSay setup (journal ++ entry ∷ []) rows
