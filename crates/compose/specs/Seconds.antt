-- How long a run may go on, by the words of its call.
use Rattle.std.specs.Prelude.{ℕ, Option, None, Result, Ok, Err}
use Rattle.compose_words.specs.declared.Command.{Command}
use Rattle.compose_words.specs.declared.Options.{Options}
use Rattle.compose_words.specs.declared.WordsRefusal.{WordsRefusal}

-- for how many seconds a command lets its run go on: `--wait-timeout` of `up`
abbrev pub seconds_of : Command → Option ℕ
seconds_of (Command.Up orphans wait seconds scale) = seconds
seconds_of command = None

-- the same of words that were read, or refused
abbrev pub seconds_in : Result Options WordsRefusal → Option ℕ
seconds_in (Ok options) = seconds_of options.command
seconds_in (Err refusal) = None
