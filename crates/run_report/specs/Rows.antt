-- Rows that say of a journal where each action is claimed, and up to which place conditions are wanted.
use Rattle.std.specs.Prelude.{◌≡◌, ◌<◌, ◌≤◌, ℕ, max, Bool, true, false, if◌then◌else◌, ◌&&◌, ◌||◌, nat_le, nat_lt, List, get_or, length, set, slice_get}
use Rattle.std.specs.Option.{option_map_or}
use Rattle.engine_types.specs.declared.Condition.{Condition}
use Rattle.engine_types.specs.declared.Entry.{Entry}
use Rattle.engine_types.specs.declared.Need.{Need}
use Rattle.engine_types.specs.declared.Report.{Report}
use Rattle.run_model.specs.Conditions.{is_started}
use Rattle.run_model.specs.EngineRules.{Among}
use Rattle.run_model.specs.Journals.{Setup}
use Rattle.run_model.specs.Plans.{kind_of, slot_needs}
use Rattle.run_report.specs.Claims.{claim_place, was_claimed}
use Rattle.run_report.specs.Conditions.{is_against}
use Rattle.run_report.specs.declared.rows.Rows.{Rows}
use Rattle.run_report.specs.declared.wanted.Wanted.{Wanted}

-- the places of claims with that of one more entry, which comes before the others
abbrev pub with_claim : List ℕ → Entry → ℕ → List ℕ
with_claim claims (Entry.Claim v a) place = set claims a place
with_claim claims _ place = claims

-- no condition of a slot is wanted
abbrev pub unwanted : Wanted
unwanted = record { healthy = 0; completed = 0; running = 0 }

-- up to which place a condition of a slot is wanted; Started never fails
abbrev pub until : Wanted → Condition → ℕ
until row Condition.Healthy = row.healthy
until row Condition.Completed = row.completed
until row Condition.Running = row.running
until row Condition.Started = 0

-- a condition of a slot is wanted up to this place too
abbrev pub raised : Wanted → Condition → ℕ → Wanted
raised row Condition.Healthy place = record row { healthy = max row.healthy place }
raised row Condition.Completed place = record row { completed = max row.completed place }
raised row Condition.Running place = record row { running = max row.running place }
raised row Condition.Started place = row

-- rows with one more need, which is wanted up to a place
abbrev pub with_need : List Wanted → Need → ℕ → List Wanted
with_need rows need place =
    if need.required
    then set rows need.slot (raised (get_or rows need.slot unwanted) need.condition place) else rows

-- each place of these rows is at least as far as it was
pub record AreGrown (old new : List Wanted) : Type 0 where
  pub size : length new ≡ length old
  pub further : (s : ℕ) (c : Condition)
      → until (get_or old s unwanted) c ≤ until (get_or new s unwanted) c

-- each condition that these needs require is wanted at least up to a place
abbrev pub AreWanted : List Wanted → List Need → ℕ → Type 0
AreWanted rows needs place = (need : Need) → Among needs need → need.required ≡ true
    → is_started need.condition ≡ false → need.slot < length rows
    → place ≤ until (get_or rows need.slot unwanted) need.condition

-- each condition that the first actions require is wanted up to the action's claim
abbrev pub AreWantedBy : Setup → List ℕ → List Wanted → ℕ → Type 0
AreWantedBy setup claims rows count = (a : ℕ) → a < count
    → AreWanted rows (slot_needs setup.declared (kind_of setup.actions a)) (get_or claims a 0)

-- the rows of a whole journal, oldest entry first
pub record AreRowsOf (setup : Setup) (journal : List Entry) (rows : Rows) : Type 0 where
  pub size : length rows.claims.items ≡ length setup.actions
  pub claims : (a : ℕ) → a < length setup.actions
      → get_or rows.claims.items a 0 ≡ claim_place journal a
  pub wanted : AreWantedBy setup rows.claims.items rows.wanted.items (length setup.actions)

-- what the rows of a journal say of its first entries, so many
pub record AreRows (setup : Setup) (past : List Entry) (place : ℕ) (rows : Rows) : Type 0 where
  pub size : length rows.claims.items ≡ length setup.actions
  pub claims : (a : ℕ) → a < length setup.actions
      → nat_lt (get_or rows.claims.items a 0) place ≡ was_claimed past a
  pub wanted : (a : ℕ) → a < length setup.actions → was_claimed past a ≡ false
      → AreWanted rows.wanted.items (slot_needs setup.declared (kind_of setup.actions a)) place

-- whether a report fails a condition that is wanted here
abbrev pub is_wanted_still : Wanted → Report → ℕ → Condition → Bool
is_wanted_still row report place c = nat_le place (until row c) && is_against report c

-- whether a report on a slot may fail a condition that is wanted here: no, unless its row says so
abbrev pub may_fail : List Wanted → ℕ → Report → ℕ → Bool
may_fail rows s report place = option_map_or
    (λ row. is_wanted_still row report place Condition.Healthy
    || is_wanted_still row report place Condition.Completed
    || is_wanted_still row report place Condition.Running)
    (slice_get rows s) true
