-- What is said of containers that a run lists and leaves.
use Rattle.std.specs.Prelude.{◌≡◌, ◌==◌, ℕ, Bool, true, if◌then◌else◌, List, [], ◌++◌, flat_map, is_some, length, Option, Some, None, codes}
use Rattle.std.specs.List.{list_any}
use Rattle.std.specs.Option.{option_to_list}
use Rattle.std.specs.Str.{bytes_eq}
use Rattle.compose_words.specs.declared.Command.{Command}
use Rattle.engine_types.specs.declared.Exchange.{Exchange}
use Rattle.engine_types.specs.declared.Listed.{Listed}
use Rattle.engine_types.specs.declared.Outcome.{Outcome}
use Rattle.engine_types.specs.declared.Reply.{Reply}
use Rattle.engine_types.specs.declared.Request.{Request}
use Rattle.run_model.specs.Shown.{shown}
use Rattle.tree_base.specs.Entries.{value_at}

-- the containers that an outcome lists
abbrev pub rows_told : Outcome → List Listed
rows_told (Outcome.Answered (Reply.Containers rows)) = rows
rows_told _ = []

-- the container that an exchange removed, by its id, if any (Engine API, "ContainerDelete")
abbrev pub removed_in : Request → Outcome → Option (List ℕ)
removed_in (Request.Remove id) (Outcome.Answered Reply.Done) = Some id
removed_in request outcome = None

-- the containers that exchanges removed, by their ids
abbrev pub removed_ids : List Exchange → List (List ℕ)
removed_ids exchanges =
    flat_map (λ exchange. option_to_list (removed_in exchange.request exchange.outcome)) exchanges

-- the name of a container that was listed, behind a space; nothing of one that was removed
abbrev pub left_name : List (List ℕ) → Listed → List ℕ
left_name removed row =
    if list_any (bytes_eq row.id) removed then [] else codes " " ++ shown row.name

-- the names of all that exchanges list, but of those that were removed
abbrev pub names_left : List (List ℕ) → List Exchange → List ℕ
names_left removed exchanges =
    flat_map (λ exchange. flat_map (left_name removed) (rows_told exchange.outcome)) exchanges

-- what is said of names, each behind a space, where there are any
abbrev pub note_on : List ℕ → Option (List ℕ)
note_on names =
    if length names == 0 then None
    else Some (codes "still there, of services that the project lacks:" ++ names)

-- what is said of the containers that exchanges list and don't remove
abbrev pub left_note : List Exchange → Option (List ℕ)
left_note exchanges = note_on (names_left (removed_ids exchanges) exchanges)

-- what is said of the run of a command that ended well or didn't: a `down` that did left what isn't of the project's services
abbrev pub run_note : Command → Bool → List Exchange → Option (List ℕ)
run_note (Command.Down orphans volumes seconds) true exchanges = left_note exchanges
run_note command ended_well exchanges = None

-- a map has just the ids of a list for keys
abbrev pub Knows : List (List ℕ × Bool) → List (List ℕ) → Type 0
Knows known ids = (id : List ℕ) → is_some (value_at known id) ≡ list_any (bytes_eq id) ids

-- what a map has for keys beside those that it had are the ids of a list
abbrev pub Learns : List (List ℕ × Bool) → List (List ℕ × Bool) → List (List ℕ) → Type 0
Learns old new more = (ids : List (List ℕ)) → Knows old ids → Knows new (ids ++ more)

-- the name of a container that was listed, behind a space; nothing of one that a map knows
abbrev pub name_unknown : List (List ℕ × Bool) → Listed → List ℕ
name_unknown known row =
    if is_some (value_at known row.id) then [] else codes " " ++ shown row.name

-- the names of all that exchanges list, but of those that a map knows
abbrev pub names_unknown : List (List ℕ × Bool) → List Exchange → List ℕ
names_unknown known exchanges =
    flat_map (λ exchange. flat_map (name_unknown known) (rows_told exchange.outcome)) exchanges
