-- What the words of a call ask for, of what is built so far.
use Rattle.std.specs.Prelude.{ℕ, Bool, true, false, not, ◌&&◌, if◌then◌else◌, List, Option, Some, None, Result, Ok, Err, is_none}
use Rattle.asked_target.specs.Targets.{has_bad_host}
use Rattle.compose_words.specs.Reading.{options_of}
use Rattle.compose_words.specs.declared.Command.{Command}
use Rattle.compose_words.specs.declared.Options.{Options}
use Rattle.compose_words.specs.declared.WordsRefusal.{WordsRefusal}
use Rattle.refusals.specs.Origins.{words_refusal}
use Rattle.refusals.specs.declared.Refusal.{Refusal}
use Rattle.refusals.specs.declared.Unbuilt.{Unbuilt}
use Rattle.tree_base.specs.Answers.{◌>>=◌}

-- variables by their names
abbrev pub Variables : Type 0
Variables = List (List ℕ × List ℕ)

-- a command that is built, with all its options
abbrev pub is_built_command : Command → Bool
is_built_command (Command.Config json quiet) = true
is_built_command (Command.Up orphans wait seconds scale) = true
is_built_command (Command.Down orphans volumes seconds) = true
is_built_command (Command.Simulate number) = false
is_built_command Command.Wait = false
is_built_command Command.Logs = false
is_built_command (Command.EngineSim connections) = false

-- all is built that options ask for
abbrev pub are_built : Options → Bool
are_built options = is_built_command options.command

-- what options are refused with that read well: something of them isn't built, or they use a variable that names no Engine
abbrev pub options_refusal : Variables → Options → Option Refusal
options_refusal env options =
    if not (are_built options) then Some (Refusal.NotBuilt Unbuilt.Words)
    else if has_bad_host options env then Some (Refusal.Words WordsRefusal.BadHost)
    else None

-- options, unless they are refused
abbrev pub unless_refused : Options → Option Refusal → Result Options Refusal
unless_refused options None = Ok options
unless_refused options (Some refusal) = Err refusal

-- options that read well, unless they are refused under these variables
abbrev pub asked_or_not : Variables → Options → Result Options Refusal
asked_or_not env options = unless_refused options (options_refusal env options)

-- the options of words, or what a call is refused with where these are none
abbrev pub read_or_refused : Result Options WordsRefusal → Result Options Refusal
read_or_refused (Ok options) = Ok options
read_or_refused (Err refusal) = Err (words_refusal refusal)

-- the command with its options that words ask for, under the caller's variables: first the words are read, then it is asked
-- what is built, and then whether DOCKER_HOST, where it is used, names an Engine; no other variable has a say
abbrev pub options_asked : List (List ℕ) → Variables → Result Options Refusal
options_asked words env = read_or_refused (options_of words) >>= asked_or_not env

-- the command of options, where there are such
abbrev pub command_in : Result Options Refusal → Option Command
command_in (Ok options) = Some options.command
command_in (Err refusal) = None

-- the command that words ask for, where they are built
abbrev pub command_of : List (List ℕ) → Variables → Option Command
command_of words env = command_in (options_asked words env)
