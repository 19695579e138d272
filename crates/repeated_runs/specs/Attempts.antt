-- Runs of one task one after another, with the looks between them.
use Rattle.std.specs.Prelude.{◌≡◌, ◌⊎◌, ℕ, ◌+◌, ◌-◌, ◌^◌, true, List, [], ◌∷◌, ◌++◌, Option, Some, None, length}
use Rattle.compose_cli.specs.Dialling.{Dials}
use Rattle.compose_cli.specs.Ends.{CountsHands, failed_dial}
use Rattle.compose_cli.specs.Runs.{IsUnbegun, RanAs}
use Rattle.compose_cli.specs.declared.Ended.{Ended}
use Rattle.engine_types.specs.declared.Request.{Request}
use Rattle.ledger_run.specs.Tellings.{Telling}
use Rattle.name_conflicts.specs.Looks.{HasLooked}
use Rattle.name_conflicts.specs.declared.LookEnd.{LookEnd}
use Rattle.outside_api.specs.Clock.{new_clock}
use Rattle.outside_api.specs.declared.dial.Dial.{Dial}
use Rattle.outside_files.specs.Counts.{Rose}
use Rattle.outside_files.specs.Sinks.{GrewBy}
use Rattle.project_run.specs.Whole.{IfBegun}
use Rattle.refusals.specs.Origins.{IsOfLoading}
use Rattle.refusals.specs.Statuses.{status_of}
use Rattle.refusals.specs.declared.Refusal.{Refusal}
use Rattle.repeated_runs.specs.Conflicts.{AreApart, conflict_of, was_repeated_for}
use Rattle.repeated_runs.specs.Hands.{NoneSent}
use Rattle.repeated_runs.specs.Moments.{Moment}
use Rattle.repeated_runs.specs.declared.attempt.Attempt.{Attempt}
use Rattle.repeated_runs.specs.declared.attempt.Attempts.{Attempts}
use Rattle.run_model.specs.EngineRules.{Among}
use Rattle.run_model.specs.Runs.{Task, run_report}

-- one run of a task, from one moment to another, whose hands were dialled so: what it ended with is what a call ends with that
-- ran once
pub record IsOneRun {H : Type 0} (tell : H → Telling) (Place : ℕ → Dial → Type 0) (workers : ℕ)
    (task : Task) (ended : Ended H) (old new : Moment) : Type 0 where
  -- the hands of the workers were dialled, in order, and those that were made are handed back
  pub dials : Dials Place workers old.dials new.dials (length ended.hands) ended.refusal
  pub dialled : CountsHands old.dialled new.dialled (length ended.hands)
  pub counted : ended.refusal ≡ failed_dial → Rose old.plug_faults new.plug_faults
  -- without an entry in its journal nothing was sent and nothing written: a hand wasn't made, or memory was wanted
  pub origin : IsOfLoading ended.refusal → ⊥
  pub unmade : ended.refusal ≡ failed_dial → NoneSent (λ hand. (tell hand).log) ended
  pub unbegun : ended.journal ≡ [] → IsUnbegun ended.refusal
  pub quiet : ended.journal ≡ [] → new.written ≡ old.written
  pub unsent : ended.journal ≡ [] → (hand : H) → Among ended.hands hand → (tell hand).log ≡ []
  -- else this is all that follows of the task
  pub ran : IfBegun ended.journal (RanAs tell task ended old.written new.written
      old.out_faults new.out_faults)
  pub status : ended.status ≡ status_of ended.refusal

-- a new hand, dialled as worker 0's, looked for what a request makes, and that ended so; nothing was written
pub record IsOneLook {H : Type 0} (tell : H → Telling) (Place : ℕ → Dial → Type 0) (task : Task)
    (request : Request) (end : LookEnd) (hand : H) (old new : Moment) : Type 0 where
  pub dial : (dial : Dial) × Place 0 dial × (new.dials ≡ old.dials ++ dial ∷ [])
  pub dialled : CountsHands old.dialled new.dialled 1
  pub looked : HasLooked task.declared.project request task.limits.deadline end
      [] (tell hand).log new_clock (tell hand).clock
  pub written : new.written ≡ old.written
  pub out_faults : new.out_faults ≡ old.out_faults

-- a run that was made again: its report was written whole; it ended since a create was refused whose name is used; and another hand
-- looked, and found what that create would have made
pub record IsMadeAgain {H : Type 0} (tell : H → Telling) (Place : ℕ → Dial → Type 0) (workers : ℕ)
    (task : Task) (attempt : Attempt H) (old new : Moment) : Type 0 where
  pub between : Moment
  pub run : IsOneRun tell Place workers task attempt.ended old between
  pub reported : GrewBy old.written (run_report task attempt.ended.journal) between.written
  pub request : Request
  pub conflict : conflict_of attempt.ended.refusal ≡ Some request
  pub look : IsOneLook tell Place task request LookEnd.Came attempt.looker between new

-- runs that were made again, one after another
abbrev pub AreMadeAgain : {H : Type 0} → (H → Telling) → (ℕ → Dial → Type 0) → ℕ → Task
    → List (Attempt H) → Moment → Moment → Type 0
AreMadeAgain tell Place workers task [] old new = new ≡ old
AreMadeAgain tell Place workers task (attempt ∷ rest) old new =
    (mid : Moment) × IsMadeAgain tell Place workers task attempt old mid
    × AreMadeAgain tell Place workers task rest mid new

-- how many runs a call makes at most
abbrev pub most_runs : ℕ
most_runs = 2 ^ 32 - 1

-- why no hand is asked for to look: there is nothing to look for, since the run wasn't refused a create whose name is used, or wanted
-- memory; the output failed; it was made again before for what the create makes; or there were as many runs before it as there may be
abbrev pub StandsUnasked : {H : Type 0} → List (Attempt H) → Option Refusal → Moment → Moment → Type 0
StandsUnasked earlier refusal before after =
    (conflict_of refusal ≡ None)
    ⊎ Rose before.out_faults after.out_faults
    ⊎ ((request : Request) × (conflict_of refusal ≡ Some request)
    × (was_repeated_for earlier request ≡ true))
    ⊎ (length earlier ≡ most_runs)

-- why a hand that is asked for to look isn't made: memory was wanted; or the plug failed, and the refusal of the create stands
abbrev pub StandsUndialled : Option Refusal → ℕ → ℕ → Type 0
StandsUndialled refusal faults_old faults_new =
    (refusal ≡ Some Refusal.Memory)
    ⊎ (((request : Request) × (conflict_of refusal ≡ Some request)) × Rose faults_old faults_new)

-- the plug was asked for one hand more, which is worker 0's
abbrev pub AsksOnce : (ℕ → Dial → Type 0) → List Dial → List Dial → Type 0
AsksOnce Place old new = (dial : Dial) × Place 0 dial × (new ≡ old ++ dial ∷ [])

-- the plug was asked for no hand to look, or for one that it didn't make
abbrev pub StandsUnlooked : {H : Type 0} → (ℕ → Dial → Type 0) → List (Attempt H) → Option Refusal → Moment
    → Moment → Moment → Type 0
StandsUnlooked Place earlier refusal before after new =
    ((new.dials ≡ after.dials) × StandsUnasked earlier refusal before after)
    ⊎ (AsksOnce Place after.dials new.dials
    × StandsUndialled refusal after.plug_faults new.plug_faults)

-- no hand was made to look, and nothing was written
pub record HasNoLooker (old new : Moment) : Type 0 where
  pub dialled : new.dialled ≡ old.dialled
  pub written : new.written ≡ old.written
  pub out_faults : new.out_faults ≡ old.out_faults

-- why a run isn't made again, which went from one moment to another: no hand was made to look; or one looked, what its create makes
-- hasn't come, and the refusal of that create stands, or a want of memory in its place
abbrev pub Stands : {H : Type 0} → (H → Telling) → (ℕ → Dial → Type 0) → Task → List (Attempt H)
    → Option Refusal → Option H → Moment → Moment → Moment → Type 0
Stands tell Place task earlier refusal None before after new =
    HasNoLooker after new × StandsUnlooked Place earlier refusal before after new
Stands tell Place task earlier refusal (Some looker) before after new =
    (request : Request) × (end : LookEnd) × IsOneLook tell Place task request end looker after new
    × (end ≡ LookEnd.Came → ⊥)
    × ((refusal ≡ Some Refusal.Memory)
    ⊎ ((end ≡ LookEnd.Memory → ⊥) × (conflict_of refusal ≡ Some request)))

-- the hands of the first of these runs
abbrev pub first_hands : {H : Type 0} → List (Attempt H) → Ended H → List H
first_hands [] last = last.hands
first_hands (first ∷ rest) last = first.ended.hands

-- a call's runs of one task: those that were made again, each for another resource, and the last one, with why that one isn't
pub record AreAttempts {H : Type 0} (tell : H → Telling) (Place : ℕ → Dial → Type 0) (workers : ℕ)
    (task : Task) (attempts : Attempts H) (old new : Moment) : Type 0 where
  pub before : Moment
  pub after : Moment
  pub earlier : AreMadeAgain tell Place workers task attempts.earlier old before
  pub apart : AreApart attempts.earlier
  pub last : IsOneRun tell Place workers task attempts.last before after
  pub stands : Stands tell Place task attempts.earlier attempts.last.refusal attempts.looker
      before after new

-- a call made no run but one, and no hand looked
abbrev pub RanOnce : {H : Type 0} → Attempts H → Type 0
RanOnce attempts = (attempts.earlier ≡ []) × (attempts.looker ≡ None)
