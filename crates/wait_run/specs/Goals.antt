-- What a wait keeps of its slots while it looks at them.
use Rattle.std.specs.Prelude.{◌≡◌, ℕ, ◌<◌, ◌≤◌, ◌+◌, ◌-◌, ◌^◌, ◌||◌, ◌==◌, Bool, not, find, List, [], ◌∷◌, ◌++◌, Option, Some, None, Result, Ok, Err, if◌then◌else◌, filter, length, slice_get, slice_set}
use Rattle.std.specs.Option.{is_some, is_none, option_map}
use Rattle.engine_types.specs.declared.Condition.{Condition}
use Rattle.engine_types.specs.declared.Declared.{Declared}
use Rattle.engine_types.specs.declared.Listed.{Listed}
use Rattle.engine_types.specs.declared.Report.{Report}
use Rattle.event_watch.specs.Verdicts.{next_verdict}
use Rattle.run_model.specs.Conditions.{is_failed_verdict, is_met_verdict, judge}
use Rattle.run_model.specs.Numbers.{places}
use Rattle.run_model.specs.declared.Verdict.{Verdict}
use Rattle.tree_base.specs.Entries.{value_at, with_entry}
use Rattle.wait_run.specs.Ends.{fails_goal, name_at}
use Rattle.wait_run.specs.Looks.{absent, container_at, owns}
use Rattle.wait_run.specs.Reports.{goal_at, met_in, some_failed, verdict_on}
use Rattle.wait_run.specs.declared.goals.Failing.{Failing}
use Rattle.wait_run.specs.declared.goals.Goal.{Goal}
use Rattle.wait_run.specs.declared.goals.Goals.{Goals}
use Rattle.wait_run.specs.declared.refusal.WaitRefusal.{WaitRefusal}

-- the goal of the slot at a place, by these reports
abbrev pub goal_row : Declared → List (ℕ × Report) → ℕ → Goal
goal_row declared said s = record {
  condition = goal_at declared s;
  verdict = verdict_on declared said s;
}

-- whether the goal of the slot at a place isn't met
abbrev pub is_unmet : Declared → List (ℕ × Report) → ℕ → Bool
is_unmet declared said s = not (is_met_verdict (verdict_on declared said s))

-- how many goals aren't met
abbrev pub unmet : Declared → List (ℕ × Report) → ℕ
unmet declared said = length (filter (is_unmet declared said) (places declared.slots))

-- a report that failed a goal, with its slot's place
abbrev pub failing_report : Failing → ℕ × Report
failing_report failing = (failing.slot, failing.report)

-- the goals of all slots say what these reports do: each slot's container and verdict, how many goals are left, which were met, and
-- which report failed one first
pub record AreGoals (declared : Declared) (rows : List Listed) (said : List (ℕ × Report))
    (goals : Goals) : Type 0 where
  pub many : length goals.rows ≡ length declared.slots
  pub few : length declared.slots ≤ 2 ^ 32
  pub owners : (s : ℕ) → s < length declared.slots
      → slice_get goals.containers s ≡ container_at declared rows s
  pub each : (s : ℕ) → s < length declared.slots
      → slice_get goals.rows s ≡ Some (goal_row declared said s)
  pub left : goals.left ≡ unmet declared said
  pub met : goals.met ≡ met_in declared said
  pub failed : option_map failing_report goals.failed ≡ find (fails_goal declared) said
  pub some : some_failed declared said ≡ is_some goals.failed
  -- a container's slot is found by the container's id
  pub found : (id : List ℕ)
      → value_at goals.places id ≡ find (owns declared rows id) (places declared.slots)

-- goals with one more, of the next slot: no report says anything of it yet
abbrev pub with_goal : Goals → Condition → List ℕ → Goals
with_goal goals condition container = record goals {
  containers = goals.containers ++ container ∷ [];
  rows = goals.rows ++ record { condition = condition; verdict = Verdict.NotYet } ∷ [];
  places =
      if is_none (value_at goals.places container)
      then with_entry goals.places container (length goals.rows) else goals.places;
  left = length goals.rows + 1;
}

-- how many goals are left where one's verdict turned
abbrev pub left_behind : ℕ → Verdict → Verdict → ℕ
left_behind left Verdict.NotYet Verdict.Met = left - 1
left_behind left Verdict.Met Verdict.Failed = left + 1
left_behind left before after = left

-- the place of a slot whose goal is met now, and wasn't before
abbrev pub met_now : ℕ → Verdict → Verdict → List ℕ
met_now s Verdict.NotYet Verdict.Met = s ∷ []
met_now s before after = []

-- the first report that failed a goal, behind one more of a slot with a goal
abbrev pub failed_now : ℕ → Report → Condition → Option Failing → Option Failing
failed_now s report condition None =
    if is_failed_verdict (judge condition report)
    then Some (record { slot = s; report = report }) else None
failed_now s report condition (Some failing) = Some failing

-- goals behind a report on the slot at a place, whose goal was this
abbrev pub reported_on : ℕ → Report → Goal → Goals → Goals
reported_on s report goal goals = record goals {
  rows = slice_set goals.rows s (record goal {
    verdict = next_verdict goal.condition goal.verdict report;
  });
  left = left_behind goals.left goal.verdict (next_verdict goal.condition goal.verdict report);
  met = goals.met ++ met_now s goal.verdict (next_verdict goal.condition goal.verdict report);
  failed = failed_now s report goal.condition goals.failed;
}

-- whether goals are settled: one has failed, or none is left
abbrev pub is_settled_now : Goals → Bool
is_settled_now goals = is_some goals.failed || (goals.left == 0)

-- the listing gave each slot its container, or the first slot that has none refuses the wait
abbrev pub FindsAll : Declared → List Listed → Result Goals WaitRefusal → Type 0
FindsAll declared rows (Ok goals) = AreGoals declared rows [] goals × (absent declared rows ≡ [])
FindsAll declared rows (Err (WaitRefusal.NotThere slot)) =
    (s : ℕ) × (slice_get (absent declared rows) 0 ≡ Some s) × (slot ≡ name_at declared s)
FindsAll declared rows (Err WaitRefusal.Memory) = Unit {0}
FindsAll declared rows (Err refusal) = ⊥
