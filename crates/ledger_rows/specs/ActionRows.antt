-- Rows of actions.
use Rattle.std.specs.Prelude.{◌≡◌, ℕ, ◌<◌, Bool, true, false, if◌then◌else◌, ◌&&◌, ◌==◌, nat_lt, List, [], ◌∷◌, Option, Some, None, length, get_or, is_some}
use Rattle.run_model.specs.Numbers.{places}
use Rattle.rank_rows.specs.Ranks.{key_at}
use Rattle.ledger_rows.specs.declared.action_rows.State.{State}
use Rattle.ledger_rows.specs.ActionRows.Values.{Actions}
pub mod Values

-- the state of an action; one that isn't there counts as free
abbrev pub state_at : Actions → ℕ → State
state_at rows a = get_or rows.states a State.Free

-- how many needs keep an action
abbrev pub lack_at : Actions → ℕ → ℕ
lack_at rows a = get_or rows.lacks a 0

-- the key of an action among the ready ones: a free one that no need keeps has one
abbrev pub key_of : State → ℕ → Option ℕ
key_of State.Free lack = if nat_lt 0 lack then None else Some 0
key_of _ lack = None

-- whether an action may be claimed now
abbrev pub is_ready : Actions → ℕ → Bool
is_ready rows a = is_some (key_of (state_at rows a) (lack_at rows a))

-- the numbers of the actions
abbrev pub numbers : Actions → List ℕ
numbers rows = places rows.states

-- each action has its key among the ready ones
pub record IsKeyed (states : List State) (lacks : List ℕ)
    (keys : List (Option ℕ)) : Type 0 where
  pub lacks_same : length lacks ≡ length states
  pub keys_same : length keys ≡ length states
  pub each : (a : ℕ) → a < length states
      → key_at keys a ≡ key_of (get_or states a State.Free) (get_or lacks a 0)
