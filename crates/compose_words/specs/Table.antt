-- The options and the commands, under the names that docker compose gives them where it has them.
use Rattle.std.specs.Prelude.{ℕ, Bool, true, false, ◌||◌, ◌&&◌, List, [], ◌∷◌, Option, Some, None, codes, find, nat_eq}
use Rattle.std.specs.Option.{option_map, option_map_or, option_copied}
use Rattle.std.specs.Str.{bytes_eq}
use Rattle.tree_base.specs.Limits.{most_connections, most_seconds, most_simulated}
use Rattle.compose_words.specs.declared.table.OptionName.{OptionName}
use Rattle.compose_words.specs.declared.table.OptionName.TheVariants.{File, ProjectName, ProjectDirectory, Profile, EnvFile, Parallel, Socket, Memory, StopFile, Format, Quiet, Detach, RemoveOrphans, Wait, WaitTimeout, Volumes, Timeout, Scale, Connections}
use Rattle.compose_words.specs.declared.table.CommandName.{CommandName}
use Rattle.compose_words.specs.declared.table.CommandName.TheVariants.{Config, Up, Down, Simulate, Logs, EngineSim}
use Rattle.compose_words.specs.declared.table.ValueKind.{ValueKind}
use Rattle.compose_words.specs.declared.table.Users.{Users}
use Rattle.compose_words.specs.declared.table.Users.TheVariants.{Every, One, Two}
use Rattle.compose_words.specs.declared.table.OptionRule.{OptionRule}
use Rattle.compose_words.specs.declared.table.OptionLine.{OptionLine}
use Rattle.compose_words.specs.declared.table.CommandRule.{CommandRule}
use Rattle.compose_words.specs.declared.table.CommandLine.{CommandLine}

-- an option's names, and what holds of it wherever it is given
pub record OptionNames : Type 0 where
  pub long : List ℕ
  pub short : Option (List ℕ)
  pub rule : OptionRule

-- an option that may be given again
abbrev pub many : List ℕ → Option (List ℕ) → OptionName → ValueKind → Users → OptionNames
many long short name value users = record { long = long; short = short; rule = record { name = name; value = value; repeats = true; users = users } }

-- an option that may be given once
abbrev pub once : List ℕ → Option (List ℕ) → OptionName → ValueKind → Users → OptionNames
once long short name value users = record { long = long; short = short; rule = record { name = name; value = value; repeats = false; users = users } }

-- a number of seconds
abbrev pub seconds : ValueKind
seconds = ValueKind.Number 0 most_seconds

-- a number of connections
abbrev pub connections : ValueKind
connections = ValueKind.Number 1 most_connections

-- the table of options
unfoldable pub option_table : List OptionNames
option_table =
    many (codes "--file") (Some (codes "-f")) File ValueKind.Text Every
    ∷ once (codes "--project-name") (Some (codes "-p")) ProjectName ValueKind.Text Every
    ∷ once (codes "--project-directory") None ProjectDirectory ValueKind.Text Every
    ∷ many (codes "--profile") None Profile ValueKind.Text Every
    ∷ many (codes "--env-file") None EnvFile ValueKind.Text Every
    ∷ once (codes "--parallel") None Parallel ValueKind.Workers Every
    ∷ once (codes "--socket") None Socket ValueKind.Text Every
    ∷ many (codes "--memory") None Memory ValueKind.Flag Every
    ∷ once (codes "--stop-file") None StopFile ValueKind.Text Every
    ∷ once (codes "--format") None Format ValueKind.Format (One Config)
    ∷ many (codes "--quiet") (Some (codes "-q")) Quiet ValueKind.Flag (One Config)
    ∷ many (codes "--detach") (Some (codes "-d")) Detach ValueKind.Flag (One Up)
    ∷ many (codes "--remove-orphans") None RemoveOrphans ValueKind.Flag (Two Up Down)
    ∷ many (codes "--wait") None Wait ValueKind.Flag (One Up)
    ∷ once (codes "--wait-timeout") None WaitTimeout seconds (One Up)
    ∷ many (codes "--volumes") (Some (codes "-v")) Volumes ValueKind.Flag (One Down)
    ∷ once (codes "--timeout") (Some (codes "-t")) Timeout seconds (One Down)
    ∷ many (codes "--scale") None Scale ValueKind.Scale (One Up)
    ∷ once (codes "--connections") None Connections connections (One EngineSim)
    ∷ []

-- a command's word, and what holds of it
pub record CommandNames : Type 0 where
  pub word : List ℕ
  pub rule : CommandRule

-- the table of commands
unfoldable pub command_table : List CommandNames
command_table =
    record { word = codes "config"; rule = record { name = Config; value = ValueKind.Flag } }
    ∷ record { word = codes "up"; rule = record { name = Up; value = ValueKind.Flag } }
    ∷ record { word = codes "down"; rule = record { name = Down; value = ValueKind.Flag } }
    ∷ record { word = codes "simulate"; rule = record { name = Simulate; value = ValueKind.Number 1 most_simulated } }
    ∷ record { word = codes "wait"; rule = record { name = CommandName.Wait; value = ValueKind.Flag } }
    ∷ record { word = codes "logs"; rule = record { name = Logs; value = ValueKind.Flag } }
    ∷ record { word = codes "enginesim"; rule = record { name = EngineSim; value = ValueKind.Flag } }
    ∷ []

-- whether a value belongs to what takes this kind
abbrev pub takes_value : ValueKind → Bool
takes_value ValueKind.Flag = false
takes_value ValueKind.Text = true
takes_value (ValueKind.Number least most) = true
takes_value ValueKind.Workers = true
takes_value ValueKind.Format = true
takes_value ValueKind.Scale = true

-- a word is the option's long name or its short one
abbrev pub is_named : List ℕ → OptionNames → Bool
is_named word names = bytes_eq names.long word || option_map_or (λ short. bytes_eq short word) names.short false

-- a word is the long name of an option that takes a value
abbrev pub is_assignable : List ℕ → OptionNames → Bool
is_assignable word names = bytes_eq names.long word && takes_value names.rule.value

-- a word is the command's
abbrev pub is_word : List ℕ → CommandNames → Bool
is_word word names = bytes_eq names.word word

-- the option that a word names
abbrev pub option_named : List ℕ → Option OptionRule
option_named word = option_map (λ (names : OptionNames). names.rule) (find (is_named word) option_table)

-- the option to which a value can be given behind this name and `=`
abbrev pub option_assigned : List ℕ → Option OptionRule
option_assigned word = option_map (λ (names : OptionNames). names.rule) (find (is_assignable word) option_table)

-- the command that a word names
abbrev pub command_named : List ℕ → Option CommandRule
command_named word = option_map (λ (names : CommandNames). names.rule) (find (is_word word) command_table)

-- a line of the program's own table of options, without what is only shown
abbrev pub names_of : OptionLine → OptionNames
names_of line = record { long = line.long.now; short = option_copied line.short; rule = line.rule }

-- a line of the program's own table of commands, without what is only shown
abbrev pub word_of : CommandLine → CommandNames
word_of line = record { word = line.word.now; rule = line.rule }

-- the place of an option in the table
abbrev pub option_number : OptionName → ℕ
option_number File = 0
option_number ProjectName = 1
option_number ProjectDirectory = 2
option_number Profile = 3
option_number EnvFile = 4
option_number Parallel = 5
option_number Socket = 6
option_number Memory = 7
option_number StopFile = 8
option_number Format = 9
option_number Quiet = 10
option_number Detach = 11
option_number RemoveOrphans = 12
option_number Wait = 13
option_number WaitTimeout = 14
option_number Volumes = 15
option_number Timeout = 16
option_number Scale = 17
option_number Connections = 18

-- two options are one
abbrev pub same_option : OptionName → OptionName → Bool
same_option a b = nat_eq (option_number a) (option_number b)

-- the place of a command in the table
abbrev pub command_number : CommandName → ℕ
command_number Config = 0
command_number Up = 1
command_number Down = 2
command_number Simulate = 3
command_number CommandName.Wait = 4
command_number Logs = 5
command_number EngineSim = 6

-- two commands are one
abbrev pub same_command : CommandName → CommandName → Bool
same_command a b = nat_eq (command_number a) (command_number b)

-- an option is for this command
abbrev pub serves : Users → CommandName → Bool
serves Every command = true
serves (One a) command = same_command a command
serves (Two a b) command = same_command a command || same_command b command
