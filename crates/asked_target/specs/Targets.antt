-- Which Engine a call asks for, and where its stop file stands.
use Rattle.std.specs.Prelude.{ℕ, Bool, true, false, not, ◌&&◌, if◌then◌else◌, is_none, List, [], ◌∷◌, drop, nat_eq, Option, Some, None, Result, Ok, Err, codes}
use Rattle.std.specs.List.{starts_with}
use Rattle.std.specs.Option.{option_map, option_map_or}
use Rattle.compose_words.specs.declared.Command.{Command}
use Rattle.compose_words.specs.declared.Options.{Options}
use Rattle.compose_words.specs.declared.WordsRefusal.{WordsRefusal}
use Rattle.file_paths.specs.Paths.{Variables, joined}
use Rattle.outside_api.specs.declared.plug.Target.{Target}
use Rattle.tree_base.specs.Answers.{◌>>=◌}
use Rattle.tree_base.specs.Entries.{value_at}

-- the commands that speak with an Engine outside of themselves
abbrev pub makes_hands : Command → Bool
makes_hands (Command.Config json quiet) = false
makes_hands (Command.Up orphans wait seconds scale) = true
makes_hands (Command.Down orphans volumes seconds) = true
makes_hands (Command.Simulate number) = false
makes_hands Command.Wait = true
makes_hands Command.Logs = true
makes_hands (Command.EngineSim connections) = false

-- the Engine behind the socket at a path, which is taken against the working directory
abbrev pub socket_at : List ℕ → List ℕ → Target
socket_at directory path = Target.Socket (joined directory path)

-- the Engine at an address (Docker's `DOCKER_HOST`), of which the socket's form alone is known: `unix://PATH`
abbrev pub addressed : List ℕ → List ℕ → Result Target WordsRefusal
addressed directory address =
    if starts_with nat_eq address (codes "unix://") then Ok (socket_at directory (drop 7 address))
    else Err WordsRefusal.BadHost

-- the Engine at an address, or else the one behind Docker's usual socket
abbrev pub hosted : List ℕ → Option (List ℕ) → Result Target WordsRefusal
hosted directory (Some address) = addressed directory address
hosted directory None = Ok (Target.Socket (codes "/var/run/docker.sock"))

-- a text that isn't empty
abbrev pub filled : Option (List ℕ) → Option (List ℕ)
filled (Some []) = None
filled found = found

-- the Engine behind the socket that an option names, or else the one at the address in DOCKER_HOST, where that isn't empty
abbrev pub outside_of : Option (List ℕ) → Variables → List ℕ → Result Target WordsRefusal
outside_of (Some path) env directory = Ok (socket_at directory path)
outside_of None env directory = hosted directory (filled (value_at env (codes "DOCKER_HOST")))

-- the Engine that options and variables name: with `--memory` the one in memory, whatever else is given
abbrev pub target_of : Options → Variables → List ℕ → Result Target WordsRefusal
target_of options env directory =
    if options.in_memory then Ok Target.InMemory else outside_of options.socket env directory

-- the Engine that a call asks for, none where its command speaks with none
abbrev pub asked_target : Options → Variables → List ℕ → Result (Option Target) WordsRefusal
asked_target options env directory =
    if makes_hands options.command then (target_of options env directory >>= λ target. Ok (Some target))
    else Ok None

-- where the file stands whose coming asks workers to stop: the path of `--stop-file` against the working directory
abbrev pub asked_stop_file : Options → List ℕ → Option (List ℕ)
asked_stop_file options directory = option_map (joined directory) options.stop_file

-- an address that names no Engine: it hasn't the socket's form
abbrev pub is_no_address : List ℕ → Bool
is_no_address address = not (starts_with nat_eq address (codes "unix://"))

-- the variable DOCKER_HOST is used for an Engine, and names none
abbrev pub has_bad_host : Options → Variables → Bool
has_bad_host options env =
    makes_hands options.command
    && (not options.in_memory
    && (is_none options.socket
    && option_map_or is_no_address (filled (value_at env (codes "DOCKER_HOST"))) false))
