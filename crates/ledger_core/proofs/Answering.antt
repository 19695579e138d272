-- Each answer of a ledger keeps its journal legal.
use Rattle.std.proofs.Common.{◌≡◌, ◌⊎◌, ℕ, ◌<◌, ◌≤◌, Bool, List, length, ap, inl, inr}
use Rattle.std.proofs.lemmas.Bool.{cases_lt, le-leb}
use Rattle.engine_types.specs.declared.Aim.{Aim}
use Rattle.tree_base.specs.Limits.{most_entries}
use Rattle.engine_types.specs.declared.Entry.{Entry}
use Rattle.run_model.specs.Journals.{Setup, is_ending}
use Rattle.run_model.specs.Legal.{Decision, Full, Go, Look, Pause, Take, answer_to, decision, is_other_out, next_action, next_poll}
use Rattle.journal_laws.specs.Courses.{Course, MayAsk, entries, grown, setup_of}
use Rattle.journal_laws.specs.Laws.{IsLegalRun, decided}
use Rattle.journal_laws.proofs.Following.{answers, shorts}
use Rattle.ledger_core.specs.Answers.{Answers, answer_entry}
use Rattle.ledger_core.specs.declared.asked.Asked.{Asked}

-- a journal that isn't full
pub below : (setup : Setup) (past : List Entry) (w : ℕ) → (decision setup past w ≡ Full → ⊥) → length past < most_entries
below setup past w not_full = on (cases_lt (length past) most_entries)
  where
    on : (length past < most_entries) ⊎ (most_entries ≤ length past) → length past < most_entries
    on (inl l) = l
    on (inr l) = absurd (not_full (ap (λ (t : Bool). answer_to t (is_ending past) (next_action setup past) (next_poll setup past) (is_other_out setup past w)) (le-leb most_entries (length past) l)))

not_full : (w : ℕ) (d : Decision) → Answers w d Asked.Short → d ≡ Full → ⊥
not_full w Full h e = h
not_full w Go h e = cc e
not_full w (Take a) h e = cc e
not_full w (Look s) h e = cc e
not_full w Pause h e = cc e

pub answered : (aim : Aim) (run : Course) (w : ℕ) (answer : Asked) → IsLegalRun aim run → MayAsk run w → Answers w (decided run w) answer
    → IsLegalRun aim (grown run (answer_entry w (decided run w) answer))
answered aim run w Asked.Short legal ready h = shorts aim run w legal ready (below (setup_of run) (entries run) w (not_full w (decided run w) h))
answered aim run w (Asked.Work permit request) legal ready h = answers aim run w legal ready
answered aim run w (Asked.Watch permit request) legal ready h = answers aim run w legal ready
answered aim run w Asked.Idle legal ready h = answers aim run w legal ready
answered aim run w Asked.Leave legal ready h = answers aim run w legal ready
