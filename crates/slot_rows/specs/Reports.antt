-- What the end of a poll says of a slot.
use Rattle.std.specs.Prelude.{◌≡◌, ℕ, false, List, ◌∷◌, Option, Some, None, option_map}
use Rattle.engine_types.specs.declared.Aim.{Aim}
use Rattle.engine_types.specs.declared.Condition.{Condition}
use Rattle.engine_types.specs.declared.Entry.{Entry}
use Rattle.engine_types.specs.declared.Outcome.{Outcome}
use Rattle.run_model.specs.Conditions.{is_started, judge, report_of}
use Rattle.run_model.specs.Journals.{Setup, Watch, holding, standing}
use Rattle.run_model.specs.Legal.{IsLegal, is_looked_at}
use Rattle.run_model.specs.declared.verdict.Verdict.{Verdict}
use Rattle.slot_rows.specs.Slots.{verdict_in}
use Rattle.slot_rows.specs.declared.slot_row.SlotRow.{SlotRow}

-- a verdict with that of one more report, or with none where a poll ended without one: what has failed stays so
abbrev pub verdict_with : Option Verdict → Verdict → Verdict
verdict_with news Verdict.Failed = Verdict.Failed
verdict_with None verdict = Verdict.Failed
verdict_with (Some Verdict.NotYet) verdict = verdict
verdict_with (Some news) verdict = news

-- the verdict on a condition after a poll's end
abbrev pub verdict_after : Condition → Outcome → Verdict → Verdict
verdict_after condition outcome verdict =
    verdict_with (option_map (judge condition) (report_of outcome)) verdict

-- a slot's row after the end of its poll
abbrev pub reported : SlotRow → Outcome → SlotRow
reported row outcome = record row {
  out = false;
  healthy = verdict_after Condition.Healthy outcome row.healthy;
  completed = verdict_after Condition.Completed outcome row.completed;
  running = verdict_after Condition.Running outcome row.running;
}

-- in a legal journal, the end of a slot's poll says of each condition but Started what the verdict with its report is; it says
-- nothing of other slots and of actions, and nobody looks at the slot any more
pub record VerdictsFollowReports : Type 0 where
  pub there : (aim : Aim) (setup : Setup) (past : List Entry) (w s : ℕ) (outcome : Outcome)
      (condition : Condition) → IsLegal aim setup past → holding past w ≡ Watch s
      → is_started condition ≡ false
      → verdict_in setup (Entry.Ended w outcome ∷ past) s condition
      ≡ verdict_after condition outcome (verdict_in setup past s condition)
  pub elsewhere : (aim : Aim) (setup : Setup) (past : List Entry) (w s t : ℕ) (outcome : Outcome)
      (condition : Condition) → IsLegal aim setup past → holding past w ≡ Watch s
      → (t ≡ s → ⊥)
      → verdict_in setup (Entry.Ended w outcome ∷ past) t condition
      ≡ verdict_in setup past t condition
  pub actions : (setup : Setup) (past : List Entry) (w s a : ℕ) (outcome : Outcome)
      → holding past w ≡ Watch s
      → standing setup (Entry.Ended w outcome ∷ past) a ≡ standing setup past a
  pub looked_at : (aim : Aim) (setup : Setup) (past : List Entry) (w s : ℕ) (outcome : Outcome)
      → IsLegal aim setup past → holding past w ≡ Watch s
      → is_looked_at setup (Entry.Ended w outcome ∷ past) s ≡ false
