-- What an ask is answered, and the entry that each answer leaves.
use Rattle.std.specs.Prelude.{◌≡◌, ℕ, ◌<◌, Some, List, length}
use Rattle.tree_base.specs.Limits.{most_entries}
use Rattle.engine_types.specs.declared.Entry.{Entry}
use Rattle.engine_types.specs.declared.LateWhy.{LateWhy}
use Rattle.run_model.specs.Journals.{Holding, Setup, Watch, Work}
use Rattle.run_model.specs.Legal.{Decision, Full, Go, Look, Pause, Take, decision}
use Rattle.run_model.specs.Requests.{action_request, poll_request}
use Rattle.journal_laws.specs.Laws.{decided_entry}
use Rattle.ledger_core.specs.declared.asked.Asked.{Asked}
use Rattle.ledger_core.specs.declared.permit.Grant.{Grant}

-- what a worker holds that has a permit for this
abbrev pub held_by : Grant → Holding
held_by (Grant.Action a) = Work a
held_by (Grant.Slot s) = Watch s

-- the answer that a decision asks for: an action and a poll are granted exactly where it says so, and to this worker.
-- Want of memory may stand in place of each but the one of a full journal
abbrev pub Answers : ℕ → Decision → Asked → Type 0
Answers w Full Asked.Short = ⊥
Answers w decision Asked.Short = Unit {0}
Answers w (Take a) (Asked.Work permit request) =
    (permit.worker ≡ w) × (permit.grant ≡ Grant.Action a)
Answers w (Look s) (Asked.Watch permit request) =
    (permit.worker ≡ w) × (permit.grant ≡ Grant.Slot s)
Answers w Pause Asked.Idle = Unit {0}
Answers w Go Asked.Leave = Unit {0}
Answers w Full Asked.Leave = Unit {0}
Answers w _ _ = ⊥

-- the entry that an answer leaves: that of the decision, or of want of memory
abbrev pub answer_entry : ℕ → Decision → Asked → Entry
answer_entry w decision Asked.Short = Entry.Short w
answer_entry w decision answer = decided_entry w decision

-- the request that comes with an answer is the one of its action or poll, by what the entries told so far
abbrev pub AsksFor : Setup → List Entry → Decision → Asked → Type 0
AsksFor setup past (Take a) (Asked.Work permit request) =
    action_request setup past a ≡ Some request
AsksFor setup past (Look s) (Asked.Watch permit request) =
    poll_request setup past s ≡ Some request
AsksFor setup past _ _ = Unit {0}

-- the last entry of a worker: there is nothing left to do, the journal is full, or memory was wanted
abbrev pub IsLastEntry : Setup → List Entry → ℕ → Entry → Type 0
IsLastEntry setup past w (Entry.Leave v) = (v ≡ w) × (decision setup past w ≡ Go)
IsLastEntry setup past w (Entry.Late v LateWhy.Entries) =
    (v ≡ w) × (decision setup past w ≡ Full)
IsLastEntry setup past w (Entry.Short v) = (v ≡ w) × (length past < most_entries)
IsLastEntry setup past w _ = ⊥
