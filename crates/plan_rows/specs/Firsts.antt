-- The first action of a slot or a network.
use Rattle.std.specs.Prelude.{ℕ, List, Option, Some, None, set}
use Rattle.engine_types.specs.declared.Action.{Action}
use Rattle.engine_types.specs.declared.ActionKind.{ActionKind}
use Rattle.run_model.specs.Plans.{create_of, make_of, start_of}
use Rattle.plan_rows.specs.declared.row.Row.{Row}

-- the action that starts a slot, creates its container, or makes a network
abbrev pub first_of : Row → List Action → ℕ → Option ℕ
first_of Row.Starts actions s = start_of actions s
first_of Row.Creates actions s = create_of actions s
first_of Row.Makes actions n = make_of actions n

-- the slot or network of an action of a row
abbrev pub place_of : Row → ActionKind → Option ℕ
place_of Row.Starts (ActionKind.StartSlot s) = Some s
place_of Row.Creates (ActionKind.CreateSlot s) = Some s
place_of Row.Makes (ActionKind.MakeNetwork n) = Some n
place_of row kind = None

-- the places with one more action, where it has a place
abbrev pub with_action : List (Option ℕ) → Option ℕ → ℕ → List (Option ℕ)
with_action places (Some place) action = set places place (Some action)
with_action places None action = places
