-- What waiting for the goals of a project's slots asks of an Engine: the containers, and each slot's own again and again.
use Rattle.std.specs.Prelude.{ℕ, Bool, if◌then◌else◌, List, [], ◌∷◌, ◌++◌, Option, Some, None, filter, filter_map, find, map, slice_get}
use Rattle.std.specs.Option.{is_none, is_some, option_map, unwrap_or}
use Rattle.std.specs.Str.{bytes_eq}
use Rattle.engine_types.specs.declared.Declared.{Declared}
use Rattle.engine_types.specs.declared.Exchange.{Exchange}
use Rattle.engine_types.specs.declared.Listed.{Listed}
use Rattle.engine_types.specs.declared.Outcome.{Outcome}
use Rattle.engine_types.specs.declared.Reply.{Reply}
use Rattle.engine_types.specs.declared.Request.{Request}
use Rattle.engine_types.specs.declared.Slot.{Slot}
use Rattle.event_watch.specs.Events.{events}
use Rattle.event_watch.specs.declared.Event.{Event}
use Rattle.response_rules.specs.Json.{given}
use Rattle.run_model.specs.Labels.{is_of_slot}
use Rattle.run_model.specs.Numbers.{places}
use Rattle.tree_base.specs.ByteOrder.{least_by}

-- the rows that a listing was answered with
abbrev pub rows_by : Outcome → Option (List Listed)
rows_by (Outcome.Answered (Reply.Containers rows)) = Some rows
rows_by _ = None

-- the rows of the listing, which is the first exchange
abbrev pub rows_in : List Exchange → Option (List Listed)
rows_in [] = None
rows_in (exchange ∷ made) = rows_by exchange.outcome

-- the row of a slot's container: of those of the project with its service and its number the one with the least id
abbrev pub row_of : List ℕ → List Listed → Slot → Option Listed
row_of project rows slot =
    least_by (λ row. row.id) (filter (λ row. is_of_slot project slot row.labels) rows)

module _ (declared : Declared) (rows : List Listed) where
  -- the id of a slot's container
  abbrev pub container_of : Slot → Option (List ℕ)
  container_of slot = option_map (λ row. row.id) (row_of declared.project rows slot)

  -- the container of the slot at a place
  abbrev pub container_at : ℕ → Option (List ℕ)
  container_at s = given (slice_get declared.slots s) container_of

  -- whether an id is that of the container of the slot at a place
  abbrev pub owns : List ℕ → ℕ → Bool
  owns id s = is_some (given (container_at s) (λ own. if bytes_eq own id then Some own else None))

  -- the slots that are looked at, by their places: each in order, and then the one of each event, where it is one's
  abbrev pub looks : List Event → List ℕ
  looks told =
      places declared.slots
      ++ filter_map (λ event. find (owns event.id) (places declared.slots)) told

  -- the look at a slot's container
  abbrev pub look : ℕ → Request
  look s = Request.Inspect (unwrap_or (container_at s) [])

  -- the places of the slots that have no container
  abbrev pub absent : List ℕ
  absent = filter (λ s. is_none (container_at s)) (places declared.slots)

-- the whole list of requests, by the exchanges that were made and what was read of the body of the stream: the listing, and behind
-- it the looks
abbrev pub requests : Declared → List ℕ → List Exchange → List Request
requests declared body made =
    Request.ListContainers declared.project
    ∷ unwrap_or
    (option_map (λ rows. map (look declared rows) (looks declared rows (events body).told))
    (rows_in made)) []
