-- What a journal says of the clock of worker 0's hand.
use Rattle.std.specs.Prelude.{◌≡◌, ℕ, ◌+◌, ◌<◌, ◌^◌, if◌then◌else◌, ◌==◌, nat_le, List, Option, Some, None}
use Rattle.engine_types.specs.declared.Entry.{Entry}
use Rattle.outside_api.specs.Clock.{Clock}
use Rattle.run_model.specs.Logs.{asks, asks_unstopped, late_reading, pauses, was_stopped}

-- a clock that a whole run may use: none of its counts is near its limit
pub record HasRoom (clock : Clock) : Type 0 where
  pub looks : clock.looks < 2 ^ 61
  pub readings : clock.readings < 2 ^ 61
  pub paused : clock.paused < 2 ^ 61

-- how often the clock is read for so many asks: once for each, where there is a deadline
abbrev pub readings_for : Option ℕ → ℕ → ℕ
readings_for None asks = 0
readings_for (Some deadline) asks = asks

-- the last of so many readings, where it is at or past the deadline
abbrev pub late_by : Option ℕ → ℕ → ℕ → Option ℕ
late_by None count last = None
late_by (Some deadline) count last =
    if count == 0 then None else if nat_le deadline last then Some last else None

-- a hand's clock by its worker's entries: one look an ask, a yes exactly where there is a Stop, the pauses; where there is a
-- deadline, one reading for each ask before a Stop, and a Late exactly where the last reading is at or past it; what was the first
-- reading stays it, where it stands
pub record IsTimed (deadline : Option ℕ) (past : List Entry) (old new : Clock) : Type 0 where
  pub looks : new.looks ≡ old.looks + asks past 0
  pub stops : new.yeses ≡ old.yeses + (if was_stopped past 0 then 1 else 0)
  pub paused : new.paused ≡ old.paused + pauses past 0
  pub readings : new.readings ≡ old.readings + readings_for deadline (asks_unstopped past 0)
  pub first : 0 < old.readings → new.first ≡ old.first
  pub place : (made : ℕ) → old.place ≡ Some made → new.place ≡ Some made
  pub late : late_reading past 0 ≡ late_by deadline (asks_unstopped past 0) new.last
