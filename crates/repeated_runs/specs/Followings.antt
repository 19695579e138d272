-- What follows one run of a call.
use Rattle.std.specs.Prelude.{◌≡◌, ◌⊎◌, ℕ, ◌+◌, Bool, true, false, not, List, [], ◌∷◌, ◌++◌, Option, Some, None, IfSome}
use Rattle.std.specs.Option.{option_map_or}
use Rattle.compose_cli.specs.Ends.{CountsHands}
use Rattle.compose_cli.specs.Runs.{first_reading}
use Rattle.compose_cli.specs.declared.Ended.{Ended}
use Rattle.engine_types.specs.declared.Aim.{Aim}
use Rattle.engine_types.specs.declared.Declared.{Declared}
use Rattle.engine_types.specs.declared.Request.{Request}
use Rattle.engine_types.specs.declared.RunOptions.{RunOptions}
use Rattle.ledger_run.specs.Tellings.{Telling}
use Rattle.name_conflicts.specs.Looks.{HasLooked}
use Rattle.name_conflicts.specs.declared.LookEnd.{LookEnd}
use Rattle.outside_api.specs.Clock.{new_clock}
use Rattle.outside_api.specs.declared.dial.Dial.{Dial}
use Rattle.outside_files.specs.Counts.{Rose}
use Rattle.project_run.specs.Whole.{task_of}
use Rattle.refusals.specs.Statuses.{status_of}
use Rattle.refusals.specs.declared.Refusal.{Refusal}
use Rattle.repeated_runs.specs.Attempts.{AreMadeAgain, AsksOnce, IsOneRun, StandsUndialled, first_hands}
use Rattle.repeated_runs.specs.Conflicts.{AreApart, conflict_of, was_repeated_for}
use Rattle.repeated_runs.specs.Moments.{Moment}
use Rattle.repeated_runs.specs.Onces.{IsLeft, WritesWhole}
use Rattle.repeated_runs.specs.declared.attempt.Attempt.{Attempt}
use Rattle.repeated_runs.specs.declared.following.Behind.{Behind}
use Rattle.repeated_runs.specs.declared.once.Left.{Left}
use Rattle.repeated_runs.specs.declared.once.Once.{Once}
use Rattle.run_model.specs.Runs.{Task, limits_of}

-- whether behind a run that was refused so something is to be looked for, and no run was made again for it yet
abbrev pub is_sought : {H : Type 0} → Option Refusal → List (Attempt H) → Bool
is_sought refusal earlier =
    option_map_or (λ request. not (was_repeated_for earlier request)) (conflict_of refusal) false

-- the same end with a want of memory in place of its refusal
abbrev pub shortened : {H : Type 0} → Ended H → Ended H
shortened ended = record ended {
  status = status_of (Some Refusal.Memory);
  refusal = Some Refusal.Memory;
}

-- the plug made worker 0's hand, and it looked for what a request makes
abbrev pub LooksSo : {H : Type 0} → (H → Telling) → (ℕ → Dial → Type 0) → List ℕ → Request → Option ℕ
    → LookEnd → H → List Dial → List Dial → Option ℕ → Option ℕ → Type 0
LooksSo tell Place project request deadline end hand old new dialled_old dialled_new =
    ((dial : Dial) × Place 0 dial × (new ≡ old ++ dial ∷ []))
    × CountsHands dialled_old dialled_new 1
    × HasLooked project request deadline end [] (tell hand).log new_clock (tell hand).clock

-- what follows one run, with the runs that were made again before and after it: it is made again, since a hand looked and found what its
-- create makes; or not, as no hand looked, or one looked and it hasn't come
abbrev pub Follows : {H : Type 0} → (H → Telling) → (ℕ → Dial → Type 0) → Once H
    → List (Attempt H) → List (Attempt H) → Behind H → List Dial → List Dial → Option ℕ → Option ℕ
    → ℕ → ℕ → Type 0
Follows {H} tell Place once before after (Behind.Again left) old new dialled_old dialled_new faults_old faults_new =
    (once.whole ≡ true) × (once.left ≡ Some left)
    × (request : Request) × (conflict_of once.ended.refusal ≡ Some request)
    × (was_repeated_for before request ≡ false)
    × (looker : H) × (after ≡ before ++ record { ended = once.ended; looker = looker } ∷ [])
    × LooksSo tell Place left.declared.project request left.limits.deadline LookEnd.Came looker
    old new dialled_old dialled_new
Follows tell Place once before after (Behind.Stands last None) old new dialled_old dialled_new faults_old faults_new =
    (after ≡ before) × ((last ≡ once.ended) ⊎ (last ≡ shortened once.ended))
    × (dialled_new ≡ dialled_old)
    × (((new ≡ old) × ((conflict_of last.refusal ≡ None) ⊎ (once.whole ≡ false)
    ⊎ ((request : Request) × (conflict_of last.refusal ≡ Some request)
    × (was_repeated_for before request ≡ true))))
    ⊎ (AsksOnce Place old new × StandsUndialled last.refusal faults_old faults_new))
Follows tell Place once before after (Behind.Stands last (Some looker)) old new dialled_old dialled_new faults_old faults_new =
    (after ≡ before) × (left : Left) × (once.left ≡ Some left)
    × (request : Request) × (conflict_of once.ended.refusal ≡ Some request) × (end : LookEnd)
    × LooksSo tell Place left.declared.project request left.limits.deadline end looker
    old new dialled_old dialled_new
    × (end ≡ LookEnd.Came → ⊥)
    × ((last ≡ shortened once.ended) ⊎ ((end ≡ LookEnd.Memory → ⊥) × (last ≡ once.ended)))

-- what follows the end of a look behind a run, with the runs that were made again before and after it: the run is one of these where
-- what its create makes has come, and else stands, with a want of memory where that was met
abbrev pub EndsLook : {H : Type 0} → Ended H → Left → H → LookEnd → List (Attempt H)
    → List (Attempt H) → Behind H → Type 0
EndsLook ended left hand LookEnd.Came before after behind =
    (after ≡ before ++ record { ended = ended; looker = hand } ∷ []) × (behind ≡ Behind.Again left)
EndsLook ended left hand LookEnd.Memory before after behind =
    (after ≡ before) × (behind ≡ Behind.Stands (shortened ended) (Some hand))
EndsLook ended left hand end before after behind =
    (after ≡ before) × (behind ≡ Behind.Stands ended (Some hand))

-- the task of a call's runs, by the hands of the first of them
abbrev pub task_by : {H : Type 0} → (H → Telling) → Declared → Aim → RunOptions → ℕ
    → List (Attempt H) → Ended H → Task
task_by tell declared aim options workers earlier last =
    task_of declared aim (limits_of workers options
    (first_reading (λ hand. (tell hand).clock) (first_hands earlier last)))

-- runs of a call since a moment: those that were made again, and one behind them, of which it isn't known yet what follows
pub record Underway {H : Type 0} (tell : H → Telling) (Place : ℕ → Dial → Type 0) (workers : ℕ)
    (declared : Declared) (aim : Aim) (task : Task) (earlier : List (Attempt H)) (once : Once H)
    (first now : Moment) : Type 0 where
  pub of_these : task ≡ task_of declared aim task.limits
  pub before : Moment
  pub made : AreMadeAgain tell Place workers task earlier first before
  pub apart : AreApart earlier
  pub run : IsOneRun tell Place workers task once.ended before now
  pub reported : once.whole ≡ true → WritesWhole task once.ended before.written now.written
  pub broken : once.whole ≡ false → Rose before.out_faults now.out_faults
  pub left : IfSome once.left (IsLeft declared task.limits)
  pub lost : once.left ≡ None → conflict_of once.ended.refusal ≡ None
