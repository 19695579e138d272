-- What holds of every legal journal, and which entries may follow it.
use Rattle.std.specs.Prelude.{◌≡◌, ◌⊎◌, ◌<◌, ◌≤◌, ℕ, true, false, Some, IsSomeAnd, List, ◌∷◌, length}
use Rattle.engine_types.specs.declared.Aim.{Aim}
use Rattle.tree_base.specs.Limits.{most_entries}
use Rattle.engine_types.specs.declared.Condition.{Condition}
use Rattle.engine_types.specs.declared.Entry.{Entry}
use Rattle.engine_types.specs.declared.LateWhy.{LateWhy}
use Rattle.engine_types.specs.declared.Outcome.{Outcome}
use Rattle.engine_types.specs.declared.Reply.{Reply}
use Rattle.run_model.specs.Conditions.{counts, has_failed, poll_counts, was_met}
use Rattle.run_model.specs.Journals.{Out, Setup, Watch, Well, Work, holding, is_open, standing}
use Rattle.run_model.specs.Legal.{Decision, Full, Go, IsLegal, Look, Pause, Take, decision}
use Rattle.run_model.specs.Logs.{asker}
use Rattle.journal_laws.specs.Courses.{Course, MayAsk, MayStop, entries, grown, setup_of}

-- the entry of a decision on a worker's ask
abbrev pub decided_entry : ℕ → Decision → Entry
decided_entry w Full = Entry.Late w LateWhy.Entries
decided_entry w Go = Entry.Leave w
decided_entry w (Take a) = Entry.Claim w a
decided_entry w (Look s) = Entry.Poll w s
decided_entry w Pause = Entry.Idle w

-- the decision on a worker's ask
abbrev pub decided : Course → ℕ → Decision
decided run w = decision (setup_of run) (entries run) w

-- a run whose journal is legal
abbrev pub IsLegalRun : Aim → Course → Type 0
IsLegalRun aim run = IsLegal aim (setup_of run) (entries run)

-- where a worker may ask, the entry of the decision may follow, and below the greatest number of entries also its Short
pub record DecisionsAreLegal : Type 0 where
  pub answers : (aim : Aim) (run : Course) (w : ℕ) → IsLegalRun aim run → MayAsk run w
      → IsLegalRun aim (grown run (decided_entry w (decided run w)))
  pub shorts : (aim : Aim) (run : Course) (w : ℕ) → IsLegalRun aim run → MayAsk run w
      → length (entries run) < most_entries
      → IsLegalRun aim (grown run (Entry.Short w))

-- what is legal is granted, and nothing else: an entry that answers a worker's ask may follow only where it is that of the
-- decision, or of want of memory
abbrev pub OnlyDecisionsAreLegal : Type 0
OnlyDecisionsAreLegal = (aim : Aim) (run : Course) (w : ℕ) (entry : Entry)
    → asker entry ≡ Some w
    → IsLegalRun aim (grown run entry)
    → (entry ≡ Entry.Short w) ⊎ (entry ≡ decided_entry w (decided run w))

-- the end of an open permit, a worker's first stop, and its first look at a clock past the deadline may follow
pub record CallsAreLegal : Type 0 where
  pub ends : (aim : Aim) (run : Course) (w : ℕ) (outcome : Outcome) → IsLegalRun aim run
      → is_open (holding (entries run) w) ≡ true
      → IsLegalRun aim (grown run (Entry.Ended w outcome))
  pub stops : (aim : Aim) (run : Course) (w : ℕ) → IsLegalRun aim run → MayStop run w
      → IsLegalRun aim (grown run (Entry.Stop w))
  pub lates : (aim : Aim) (run : Course) (w reading : ℕ) → IsLegalRun aim run → MayStop run w
      → IsSomeAnd run.limits.deadline (λ deadline. deadline ≤ reading)
      → IsLegalRun aim (grown run (Entry.Late w (LateWhy.Deadline reading)))

-- an action that a worker holds is out and held by no other one; a slot is looked at by one worker at most, who is of the run
pub record PermitsAreSingle : Type 0 where
  pub work : (aim : Aim) (setup : Setup) (past : List Entry) (w a : ℕ) → IsLegal aim setup past
      → holding past w ≡ Work a
      → (standing setup past a ≡ Out) × ((v : ℕ) → holding past v ≡ Work a → v ≡ w)
  pub watch : (aim : Aim) (setup : Setup) (past : List Entry) (w s : ℕ)
      → IsLegal aim setup past → holding past w ≡ Watch s
      → (w < setup.limits.workers) × ((v : ℕ) → holding past v ≡ Watch s → v ≡ w)

-- an action that ended well has after the next legal entry
abbrev pub GoodEndsStay : Type 0
GoodEndsStay = (aim : Aim) (setup : Setup) (entry : Entry) (past : List Entry) (a : ℕ)
    (reply : Reply) → IsLegal aim setup (entry ∷ past)
    → standing setup past a ≡ Well reply → standing setup (entry ∷ past) a ≡ Well reply

-- where a worker looks at a slot, its report counts, and so does each later one
abbrev pub PolledSlotsCount : Type 0
PolledSlotsCount = (aim : Aim) (setup : Setup) (past : List Entry) (w s : ℕ)
    → IsLegal aim setup past → holding past w ≡ Watch s
    → (poll_counts setup past w ≡ true) × (counts setup past s ≡ true)

-- no report fails Started, and what some report failed or met is of a slot whose reports count
pub record ReportsAreSound : Type 0 where
  pub started : (setup : Setup) (past : List Entry) (s : ℕ)
      → has_failed setup past s Condition.Started ≡ false
  pub failed : (aim : Aim) (setup : Setup) (past : List Entry) (s : ℕ) (condition : Condition)
      → IsLegal aim setup past → has_failed setup past s condition ≡ true
      → counts setup past s ≡ true
  pub met : (aim : Aim) (setup : Setup) (past : List Entry) (s : ℕ) (condition : Condition)
      → IsLegal aim setup past → was_met setup past s condition ≡ true
      → counts setup past s ≡ true
