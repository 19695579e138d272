-- What a run says of its hand's clock, from the first reading on.
use Rattle.std.proofs.Common.{◌≡◌, ℕ, ◌+◌, ◌<◌, ◌^◌, List, [], ◌∷◌, Option, Some, None, reverse, refl, sym, ap, ◌∙◌, subst, arith}
use Rattle.std.specs.Prelude.{option_map}
use Rattle.engine_types.specs.declared.Entry.{Entry}
use Rattle.engine_types.specs.declared.Observed.{Observed}
use Rattle.engine_types.specs.declared.RunLimits.{RunLimits}
use Rattle.engine_types.specs.declared.RunOptions.{RunOptions}
use Rattle.ledger_run.specs.Timing.{HasRoom, late_by, readings_for}
use Rattle.ledger_run.specs.Timing as of_worker
use Rattle.outside_api.specs.Clock.{Clock, new_clock}
use Rattle.project_run.specs.Options.{AreFor, clock_begun, limits_in}
use Rattle.project_run.specs.Timing.{IsTimed, ReadsFirst, run_readings}
use Rattle.run_model.specs.Logs.{asks, asks_unstopped, deadline_after, late_reading, pauses, was_stopped}
use Rattle.run_model.specs.Runs.{Task}

-- a clock on which a run has begun is far from its limits
pub has_room : (seconds : Option ℕ) (made first : ℕ) (clock : Clock) → clock ≡ clock_begun seconds made first → HasRoom clock
has_room None made first clock is = rw is (record { looks = omega arith; readings = omega arith; paused = omega arith })
has_room (Some s) made first clock is = rw is (record { looks = omega arith; readings = omega arith; paused = omega arith })

-- the first reading stays
pub same_deadline : (seconds : Option ℕ) (made : ℕ) (clock new : Clock) → clock ≡ clock_begun seconds made clock.first → (0 < clock.readings → new.first ≡ clock.first)
    → option_map (deadline_after new.first) seconds ≡ option_map (deadline_after clock.first) seconds
same_deadline None made clock new is kept = refl
same_deadline (Some s) made clock new is kept =
    let one : clock.readings ≡ 1 = ap (λ (c : Clock). c.readings) is in
    ap (λ (first : ℕ). Some (deadline_after first s)) (kept (omega (arith, one)))

-- a clock has begun for a deadline as for the seconds that set it
begun_by : (seconds : Option ℕ) (made first : ℕ) (f : ℕ → ℕ) → clock_begun (option_map f seconds) made first ≡ clock_begun seconds made first
begun_by None made first f = refl
begun_by (Some s) made first f = refl

-- limits that were set by the first reading are those that it sets in the end
same_limits : (options : RunOptions) (workers : ℕ) (given : Option RunLimits) (made : ℕ) (clock new : Clock) → clock ≡ clock_begun (limits_in workers options given clock.first).deadline made clock.first
    → (0 < clock.readings → new.first ≡ clock.first) → limits_in workers options given clock.first ≡ limits_in workers options given new.first
same_limits options workers (Some limits) made clock new is kept = refl
same_limits options workers None made clock new is kept =
    let begun : clock ≡ clock_begun options.wait_seconds made clock.first = is ∙ begun_by options.wait_seconds made clock.first (deadline_after clock.first) in
    sym (ap (λ (deadline : Option ℕ). record { workers = workers; deadline = deadline; wait = options.wait; stop_seconds = options.stop_seconds })
    (same_deadline options.wait_seconds made clock new begun kept))

pub limits_stay : (options : RunOptions) (workers : ℕ) (given : Option RunLimits) (made : ℕ) (clock new : Clock) (limits : RunLimits) → limits ≡ limits_in workers options given clock.first
    → clock ≡ clock_begun limits.deadline made clock.first → (0 < clock.readings → new.first ≡ clock.first) → limits ≡ limits_in workers options given new.first
limits_stay options workers given made clock new limits is begun kept =
    is ∙ same_limits options workers given made clock new (subst (λ (l : RunLimits). clock ≡ clock_begun l.deadline made clock.first) is begun) kept

-- limits that are given for so many workers, or set for them, are for as many
pub given_for : (options : RunOptions) (workers : ℕ) (given : Option RunLimits) (first : ℕ) (limits : RunLimits) → AreFor workers given → limits ≡ limits_in workers options given first → limits.workers ≡ workers
given_for options workers None first limits are is = ap (λ (l : RunLimits). l.workers) is
given_for options workers (Some given) first limits are is = ap (λ (l : RunLimits). l.workers) is ∙ are

-- where the first reading stands stays
pub reads_first : (deadline : Option ℕ) (made : ℕ) (clock new : Clock) → clock ≡ clock_begun deadline made clock.first → ((place : ℕ) → clock.place ≡ Some place → new.place ≡ Some place)
    → ReadsFirst deadline made new
reads_first None made clock new is kept = tt
reads_first (Some d) made clock new is kept = kept made (ap (λ (c : Clock). c.place) is)

-- nothing was done yet by a journal that has only its observation
pub still_timed : (deadline : Option ℕ) (observed : Observed) (clock : Clock) → of_worker.IsTimed deadline (Entry.Seen observed ∷ []) clock clock
still_timed deadline observed clock = record {
  looks = omega arith;
  stops = omega arith;
  paused = omega arith;
  readings = none deadline;
  first = λ some. refl;
  place = λ made e. e;
  late = never deadline;
}
  where
    none : (d : Option ℕ) → clock.readings ≡ clock.readings + readings_for d 0
    none None = omega arith
    none (Some d) = omega arith

    never : (d : Option ℕ) → None ≡ late_by d 0 clock.last
    never None = refl
    never (Some d) = refl

-- what the worker's loop says of its hand's clock, with the run's first reading before it
timed_by : (deadline : Option ℕ) (task : Task) (journal : List Entry) (made : ℕ) (old clock new : Clock) → task.limits.deadline ≡ deadline → old ≡ new_clock → clock ≡ clock_begun deadline made clock.first
    → of_worker.IsTimed deadline (reverse journal) clock new → IsTimed task journal 0 old new
timed_by None task journal made old clock new limit unused is timed =
    let begun : of_worker.IsTimed None (reverse journal) new_clock new = rw is at timed in
    rw unused (record {
      looks = begun.looks;
      stops = begun.stops;
      paused = begun.paused;
      readings = rw limit begun.readings;
      late = rw limit begun.late;
    })
timed_by (Some d) task journal made old clock new limit unused is timed =
    let one : clock.readings ≡ 1 = ap (λ (c : Clock). c.readings) is in
    let looks : clock.looks ≡ 0 = ap (λ (c : Clock). c.looks) is in
    let yeses : clock.yeses ≡ 0 = ap (λ (c : Clock). c.yeses) is in
    let paused : clock.paused ≡ 0 = ap (λ (c : Clock). c.paused) is in
    rw unused (record {
      looks = rw looks at timed.looks;
      stops = rw yeses at timed.stops;
      paused = rw paused at timed.paused;
      readings = rw limit (let r = timed.readings in omega (arith, r, one));
      late = rw limit timed.late;
    })

pub run_timed : (task : Task) (journal : List Entry) (made : ℕ) (old clock new : Clock) → old ≡ new_clock → clock ≡ clock_begun task.limits.deadline made clock.first
    → of_worker.IsTimed task.limits.deadline (reverse journal) clock new → IsTimed task journal 0 old new
run_timed task journal made old clock new unused is timed = timed_by task.limits.deadline task journal made old clock new refl unused is timed
