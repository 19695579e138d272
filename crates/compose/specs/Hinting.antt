-- Which hint is said on a refusal.
use Rattle.std.specs.Prelude.{ℕ, Bool, true, false, List, Option, None, slice_get, option_and_then}
use Rattle.std.specs.Option.{option_map}
use Rattle.compose.specs.declared.reaching.UnheardSocket.{UnheardSocket}
use Rattle.compose_words.specs.declared.WordsRefusal.{WordsRefusal}
use Rattle.engine_types.specs.declared.Exchange.{Exchange}
use Rattle.engine_types.specs.declared.Outcome.{Outcome}
use Rattle.engine_types.specs.declared.Request.{Request}
use Rattle.engine_types.specs.declared.SeenFault.{SeenFault}
use Rattle.hints.specs.Attributes.{attribute_hint}
use Rattle.hints.specs.Requests.{request_hint}
use Rattle.hints.specs.Sockets.{socket_hint}
use Rattle.hints.specs.Words.{word_hint}
use Rattle.loading_words.specs.declared.ProjectRefusal.{ProjectRefusal}
use Rattle.refusals.specs.declared.Refusal.{Refusal}

-- nothing of a request of the observation could be sent
abbrev pub is_unsent_fault : SeenFault → Bool
is_unsent_fault (SeenFault.NotSent request) = true
is_unsent_fault _ = false

-- nothing of a request could be sent
abbrev pub is_unsent_outcome : Outcome → Bool
is_unsent_outcome Outcome.NotSent = true
is_unsent_outcome _ = false

-- a call is refused since nothing could be sent
abbrev pub is_unsent : Refusal → Bool
is_unsent (Refusal.Seen fault) = is_unsent_fault fault
is_unsent (Refusal.Request request outcome) = is_unsent_outcome outcome
is_unsent _ = false

-- the hint on words that are refused: on the word that is unknown
abbrev pub words_hint : List (List ℕ) → WordsRefusal → Option (List ℕ)
words_hint words (WordsRefusal.UnknownWord at) = option_and_then word_hint (slice_get words at)
words_hint words _ = None

-- the hint on a project that is refused: on the attribute that is unknown
abbrev pub project_hint : ProjectRefusal → Option (List ℕ)
project_hint (ProjectRefusal.UnknownAttribute path) = attribute_hint path
project_hint _ = None

-- the hint where nothing could be sent: on the socket, where the call is of one
abbrev pub unsent_hint : Option UnheardSocket → Option (List ℕ)
unsent_hint socket = option_map (λ it. socket_hint it.state it.path) socket

-- the hint on what the observation ended with
abbrev pub seen_hint : Option UnheardSocket → SeenFault → Option (List ℕ)
seen_hint socket (SeenFault.NotSent request) = unsent_hint socket
seen_hint socket _ = None

-- the hint on an exchange of the run that didn't end well: on the socket, or by the exchanges of the run
abbrev pub exchange_hint : Option UnheardSocket → List Exchange → Request → Outcome → Option (List ℕ)
exchange_hint socket exchanges request Outcome.NotSent = unsent_hint socket
exchange_hint socket exchanges request outcome = request_hint request outcome exchanges

-- the hint on a refusal of a call with these words; most have none
abbrev pub hint_on : List (List ℕ) → Option UnheardSocket → List Exchange → Refusal → Option (List ℕ)
hint_on words socket exchanges (Refusal.Words refusal) = words_hint words refusal
hint_on words socket exchanges (Refusal.Project refusal) = project_hint refusal
hint_on words socket exchanges (Refusal.Seen fault) = seen_hint socket fault
hint_on words socket exchanges (Refusal.Request request outcome) =
    exchange_hint socket exchanges request outcome
hint_on words socket exchanges _ = None
