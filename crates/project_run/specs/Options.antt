-- What bounds a run of one worker.
use Rattle.std.specs.Prelude.{◌≡◌, ℕ, ◌&&◌, Option, Some, None, IfSome}
use Rattle.engine_types.specs.declared.Aim.{Aim}
use Rattle.engine_types.specs.declared.RunLimits.{RunLimits}
use Rattle.engine_types.specs.declared.RunOptions.{RunOptions}
use Rattle.outside_api.specs.Clock.{Clock, new_clock, read_at}
use Rattle.run_model.specs.Observation.{is_up}
use Rattle.run_model.specs.Runs.{limits_of}

-- the limits that these options set a run of one worker where hand 0 has this clock in the end: its first reading was the run's
abbrev pub limits_by : RunOptions → Clock → RunLimits
limits_by options clock = limits_of 1 options clock.first

-- the limits of a run of so many workers: those that an earlier run of the same had, where they are given, else those that options
-- set by the first reading of hand 0's clock
abbrev pub limits_in : ℕ → RunOptions → Option RunLimits → ℕ → RunLimits
limits_in workers options None first = limits_of workers options first
limits_in workers options (Some given) first = given

-- limits that are given to a run of so many workers are for as many
abbrev pub AreFor : ℕ → Option RunLimits → Type 0
AreFor workers given = IfSome given (λ limits. limits.workers ≡ workers)

-- the limits within which the worker of a run works: it waits for goals only where a project is brought up
abbrev pub bounded : Aim → RunLimits → RunLimits
bounded aim limits = record limits { wait = limits.wait && is_up aim.purpose }

-- the clock of a hand that had made so many exchanges once a run has begun: it was read where there is to be a deadline
abbrev pub clock_begun : Option ℕ → ℕ → ℕ → Clock
clock_begun (Some seconds) made first = read_at made new_clock first
clock_begun None made first = new_clock
