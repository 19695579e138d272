-- How the rows of a ledger are tied to its journal.
use Rattle.std.specs.Prelude.{◌≡◌, ℕ, ◌+◌, ◌<◌, ◌≤◌, Bool, true, false, not, if◌then◌else◌, ◌&&◌, ◌||◌, ◌==◌, List, [], Option, Some, None, get_or, is_some, length, slice_get}
use Rattle.engine_types.specs.declared.Entry.{Entry}
use Rattle.engine_types.specs.declared.Outcome.{Outcome}
use Rattle.engine_types.specs.declared.Reply.{Reply}
use Rattle.run_model.specs.Journals.{Badly, Free, Out, Setup, Standing, Well, is_free}
use Rattle.ledger_rows.specs.ActionRows.{lack_at, state_at}
use Rattle.ledger_rows.specs.ActionRows.Values.{Actions}
use Rattle.ledger_rows.specs.Counts.{counted, is_listed}
use Rattle.ledger_rows.specs.Facts.{AreBlocked, Facts, cause_by, frees, lacks_by, lost_by, open_needs, stops}
use Rattle.ledger_rows.specs.declared.action_rows.State.{State}

-- a reply that ended an action stands at this place of the journal
abbrev pub TellsWell : List Entry → ℕ → Reply → Type 0
TellsWell journal at reply =
    (w : ℕ) × (slice_get journal at ≡ Some (Entry.Ended w (Outcome.Answered reply)))

-- how an action stands, by its row
abbrev pub StandsAs : List Entry → Standing → State → Type 0
StandsAs journal standing State.Free = standing ≡ Free
StandsAs journal standing State.Blocked = standing ≡ Free
StandsAs journal standing State.Out = standing ≡ Out
StandsAs journal standing (State.Well at) =
    (reply : Reply) × (standing ≡ Well reply) × TellsWell journal at reply
StandsAs journal standing State.Badly = standing ≡ Badly

-- the state of an action that is blocked
abbrev pub is_blocked_state : State → Bool
is_blocked_state State.Blocked = true
is_blocked_state _ = false

-- whether an action is marked as blocked
abbrev pub blocked_in : Actions → ℕ → Bool
blocked_in rows a = is_blocked_state (state_at rows a)

-- the rows of the actions say how each stands, which are blocked, and how many needs keep each
pub record AreRows (setup : Setup) (facts : Facts) (journal : List Entry)
    (rows : Actions) : Type 0 where
  pub size : length rows.states ≡ length setup.actions
  pub lacks_size : length rows.lacks ≡ length setup.actions
  pub each : (a : ℕ) → StandsAs journal (facts.stands a) (state_at rows a)
  pub blocked : AreBlocked setup facts (blocked_in rows)
  pub lacks : (a : ℕ) → a < length setup.actions
      → lack_at rows a ≡ open_needs setup facts (blocked_in rows) a

-- the state of an action that may still be claimed
abbrev pub is_free_state : State → Bool
is_free_state State.Free = true
is_free_state _ = false

-- whether an action's loss waits to be carried on
abbrev pub is_pending_in : List (Option ℕ) → ℕ → Bool
is_pending_in pending a = is_some (get_or pending a None)

-- whether an action is lost, and its loss was carried on
abbrev pub carried_on : Facts → Actions → List (Option ℕ) → ℕ → Bool
carried_on facts rows pending a =
    lost_by facts (blocked_in rows) a && not (is_pending_in pending a)

-- whether an action is marked as blocked, and isn't fresh: it was blocked before
abbrev pub was_blocked : Actions → List (Option ℕ) → ℕ → Bool
was_blocked rows fresh a = blocked_in rows a && not (is_pending_in fresh a)

-- the rows are as if those alone were lost whose loss was carried on
pub record AreLosing (setup : Setup) (facts : Facts) (journal : List Entry) (rows : Actions)
    (pending : List (Option ℕ)) : Type 0 where
  pub size : length rows.states ≡ length setup.actions
  pub lacks_size : length rows.lacks ≡ length setup.actions
  pub pending_size : length pending ≡ length setup.actions
  pub each : (a : ℕ) → StandsAs journal (facts.stands a) (state_at rows a)
  pub lost : (a : ℕ) → is_pending_in pending a ≡ true
      → lost_by facts (blocked_in rows) a ≡ true
  pub blocked : (a : ℕ) → blocked_in rows a
      ≡ (is_free (facts.stands a) && cause_by setup facts (carried_on facts rows pending) a)
  pub lacks : (a : ℕ) → a < length setup.actions
      → lack_at rows a ≡ lacks_by setup facts (carried_on facts rows pending) a

-- one loss is carried on: those that it stops are blocked and wait in turn, and so many needs let others go
pub record CarriesOn (setup : Setup) (x : ℕ) (rows new : Actions)
    (pending later : List (Option ℕ)) : Type 0 where
  pub size : length new.states ≡ length rows.states
  pub lacks_size : length new.lacks ≡ length rows.lacks
  pub pending_size : length later ≡ length pending
  pub states : (a : ℕ) → state_at new a
      ≡ (if (is_free_state (state_at rows a) && stops setup x a) then State.Blocked
      else state_at rows a)
  pub waits : (a : ℕ) → is_pending_in later a
      ≡ ((is_pending_in pending a && not (a == x))
      || (is_free_state (state_at rows a) && stops setup x a))
  pub lacks : (a : ℕ) → a < length setup.actions
      → lack_at new a + frees setup x a ≡ lack_at rows a

-- how much is left to carry on: each step takes one that waits away, or makes one that is free wait
abbrev pub work : Actions → List (Option ℕ) → ℕ
work rows pending = counted is_free_state rows.states + counted is_some pending

-- these actions are blocked where they are free, and wait in turn
pub record Blocks (xs : List ℕ) (rows new : Actions)
    (pending later : List (Option ℕ)) : Type 0 where
  pub size : length new.states ≡ length rows.states
  pub lacks_are : new.lacks ≡ rows.lacks
  pub pending_size : length later ≡ length pending
  pub states : (a : ℕ) → state_at new a
      ≡ (if (is_free_state (state_at rows a) && is_listed xs a) then State.Blocked
      else state_at rows a)
  pub waits : (a : ℕ) → is_pending_in later a
      ≡ (is_pending_in pending a || (is_free_state (state_at rows a) && is_listed xs a))
  pub less : work new later ≤ work rows pending

-- the rows of each action's dependents: whom its loss blocks, and whom it lets go, as often as it does
pub record IsNet (setup : Setup) (stopped freed : List (List ℕ)) : Type 0 where
  pub stopped_there : (x i a : ℕ) → slice_get (get_or stopped x []) i ≡ Some a
      → a < length setup.actions
  pub freed_there : (x i a : ℕ) → slice_get (get_or freed x []) i ≡ Some a
      → a < length setup.actions
  pub stopped_size : length stopped ≡ length setup.actions
  pub freed_size : length freed ≡ length setup.actions
  pub stopped_are : (x a : ℕ) → is_listed (get_or stopped x []) a ≡ stops setup x a
  pub freed_are : (x a : ℕ)
      → counted (λ b. b == a) (get_or freed x []) ≡ frees setup x a

-- what a ledger's rows are of
pub record Ground : Type 0 where
  pub setup : Setup
  pub facts : Facts
  pub journal : List Entry
