-- What the verdicts on slots say, one condition after the other.
use Rattle.std.specs.Prelude.{◌≡◌, ℕ, length, reverse, Bool, true, false, not, if◌then◌else◌, ◌&&◌, ◌==◌, List}
use Rattle.engine_types.specs.declared.Condition.{Condition}
use Rattle.engine_types.specs.declared.Entry.{Entry}
use Rattle.run_model.specs.Conditions.{is_failed_verdict, is_met_verdict}
use Rattle.run_model.specs.Journals.{Setup, Standing, standing}
use Rattle.run_model.specs.declared.verdict.Verdict.{Verdict}
use Rattle.ledger_rows.specs.Facts.{Facts, same_condition}
use Rattle.ledger_rows.specs.Entries.{Ending}
use Rattle.ledger_rows.specs.Rows.{is_pending_in}
use Rattle.slot_rows.specs.Reports.{verdict_after}
use Rattle.slot_rows.specs.Slots.{verdict_in}
use Rattle.ledger_ends.specs.declared.losses.Losses.{Losses}

-- the facts that these verdicts say, where the actions stand so
abbrev pub facts_by : (ℕ → Standing) → (ℕ → Condition → Verdict) → Facts
facts_by stands verdicts = record {
  stands = stands;
  failed = λ s c. is_failed_verdict (verdicts s c);
  met = λ s c. is_met_verdict (verdicts s c);
}

-- the verdicts with another one on a condition of a slot
abbrev pub with_verdict : (ℕ → Condition → Verdict) → ℕ → Condition → Verdict → ℕ → Condition
    → Verdict
with_verdict verdicts s c verdict t d =
    if ((t == s) && same_condition d c) then verdict else verdicts t d

-- whether one verdict may follow another: what has failed stays so, and what was met is met or has failed
abbrev pub may_follow : Verdict → Verdict → Bool
may_follow Verdict.NotYet after = true
may_follow Verdict.Met Verdict.NotYet = false
may_follow Verdict.Met after = true
may_follow Verdict.Failed Verdict.Failed = true
may_follow Verdict.Failed after = false

-- a run's journal, how its actions stand, the verdicts on its slots, and the condition on which there is news
pub record News : Type 0 where
  pub setup : Setup
  pub journal : List Entry
  pub stands : ℕ → Standing
  pub verdicts : ℕ → Condition → Verdict
  pub slot : ℕ
  pub condition : Condition

-- the facts with this verdict on which there is news
abbrev pub facts_with : News → Verdict → Facts
facts_with news verdict =
    facts_by news.stands (with_verdict news.verdicts news.slot news.condition verdict)

-- there is room for the losses of a call, of which none waits
pub record AreReady (setup : Setup) (losses : Losses) : Type 0 where
  pub pending_size : length losses.pending ≡ length setup.actions
  pub no_pending : (a : ℕ) → is_pending_in losses.pending a ≡ false
  pub fresh_size : length losses.fresh ≡ length setup.actions

-- what the report of a poll says of Healthy
abbrev pub healthy_news : Ending → ℕ → News
healthy_news run s = record {
  setup = run.setup;
  journal = run.journal;
  stands = standing run.setup (reverse run.journal);
  verdicts = verdict_in run.setup (reverse run.journal);
  slot = s;
  condition = Condition.Healthy;
}

-- the verdicts with it
abbrev pub with_healthy : Ending → ℕ → ℕ → Condition → Verdict
with_healthy run s = with_verdict (verdict_in run.setup (reverse run.journal)) s Condition.Healthy
    (verdict_after Condition.Healthy run.outcome
    (verdict_in run.setup (reverse run.journal) s Condition.Healthy))

-- what it says of Completed, after that
abbrev pub completed_news : Ending → ℕ → News
completed_news run s = record {
  setup = run.setup;
  journal = run.journal;
  stands = standing run.setup (reverse run.journal);
  verdicts = with_healthy run s;
  slot = s;
  condition = Condition.Completed;
}
