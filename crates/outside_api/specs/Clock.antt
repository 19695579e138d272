-- How often a hand or a wire read its clock, paused and was asked to stop, and when a hand read its clock first.
use Rattle.std.specs.Prelude.{ℕ, ◌+◌, Bool, ◌==◌, if◌then◌else◌, Option, Some, None}

-- the number of readings, the first and the last of them (milliseconds); the milliseconds that were paused; how
-- often it was asked whether to stop, and how often that was answered yes; and of a hand's clock that was read, how many exchanges
-- stood in its log at the first reading
pub record Clock : Type 0 where
  pub readings : ℕ
  pub first : ℕ
  pub last : ℕ
  pub paused : ℕ
  pub looks : ℕ
  pub yeses : ℕ
  pub place : Option ℕ

-- a clock that was never used
abbrev pub new_clock : Clock
new_clock = record { readings = 0; first = 0; last = 0; paused = 0; looks = 0; yeses = 0; place = None }

-- where the first reading stands once there is one behind so many exchanges: there, unless there was one before
abbrev pub placed : ℕ → Option ℕ → Option ℕ
placed made None = Some made
placed made (Some first) = Some first

-- the clock after a reading, whose place isn't told
abbrev pub after_now : Clock → ℕ → Clock
after_now clock reading = record clock { readings = clock.readings + 1; first = if clock.readings == 0 then reading else clock.first; last = reading }

-- a hand's clock after a reading behind so many exchanges
abbrev pub read_at : ℕ → Clock → ℕ → Clock
read_at made clock reading = record (after_now clock reading) { place = placed made clock.place }

-- the clock after a pause of so many milliseconds
abbrev pub after_pause : Clock → ℕ → Clock
after_pause clock milliseconds = record clock { paused = clock.paused + milliseconds }

-- the clock after a look whether to stop
abbrev pub after_asked : Clock → Bool → Clock
after_asked clock answer = record clock { looks = clock.looks + 1; yeses = if answer then clock.yeses + 1 else clock.yeses }
