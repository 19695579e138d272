-- What an entry is of that changes the rows of a ledger.
use Rattle.std.specs.Prelude.{ℕ, List}
use Rattle.engine_types.specs.declared.Entry.{Entry}
use Rattle.engine_types.specs.declared.Outcome.{Outcome}
use Rattle.engine_types.specs.declared.Reply.{Reply}
use Rattle.run_model.specs.Journals.{Setup}
use Rattle.journal_laws.specs.Courses.{first_seen}
use Rattle.ledger_rows.specs.Entries.{Ending, GoodEnding}
use Rattle.ledger_ends.specs.declared.run_so_far.RunSoFar.{RunSoFar}

-- a run's journal, and whose claim comes next
pub record Claiming : Type 0 where
  pub setup : Setup
  pub journal : List Entry
  pub worker : ℕ

-- what a run is of
abbrev pub setup_of : RunSoFar → Setup
setup_of so_far = record {
  declared = so_far.declared.now;
  seen = first_seen so_far.journal.now;
  actions = so_far.plan.now.actions;
  limits = so_far.limits;
}

-- the reply of an outcome; one without reply stands for Done
abbrev pub reply_of : Outcome → Reply
reply_of (Outcome.Answered reply) = reply
reply_of _ = Reply.Done

-- this run, and a worker's claim that comes next
abbrev pub claiming : RunSoFar → ℕ → Claiming
claiming so_far w =
    record { setup = setup_of so_far; journal = so_far.journal.now; worker = w }

-- this run, and the end of what a worker holds that comes next
abbrev pub ending : RunSoFar → ℕ → Outcome → Ending
ending so_far w outcome = record {
  setup = setup_of so_far;
  journal = so_far.journal.now;
  worker = w;
  outcome = outcome;
}

-- this run, and the good end of what a worker holds that comes next
abbrev pub good_ending : RunSoFar → ℕ → Outcome → GoodEnding
good_ending so_far w outcome = record {
  setup = setup_of so_far;
  journal = so_far.journal.now;
  worker = w;
  reply = reply_of outcome;
}
