-- The usage text: what `--help` prints, line by line.
use Rattle.std.specs.Prelude.{ℕ, ◌-◌, ◌==◌, if◌then◌else◌, List, [], ◌∷◌, ◌++◌, Option, None, Some, codes, find, length, replicate}
use Rattle.std.specs.Option.{option_map_or}
use Rattle.compose_words.specs.declared.table.CommandLine.{CommandLine}
use Rattle.compose_words.specs.declared.table.CommandName.{CommandName}
use Rattle.compose_words.specs.declared.table.OptionLine.{OptionLine}
use Rattle.compose_words.specs.declared.table.Users.{Users}
use Rattle.compose_words.specs.declared.table.Users.TheVariants.{Every, One, Two}
use Rattle.compose_words.specs.Table.{CommandNames, OptionNames, command_table, option_table, same_command}

-- what is only shown of an option or a command: the name of its value, where it takes one, and what it does
pub record Shown : Type 0 where
  pub argument : List ℕ
  pub help : List ℕ

-- a value's name, and what its option or command does
abbrev pub shown : List ℕ → List ℕ → Shown
shown argument help = record { argument = argument; help = help }

-- what is shown of each option, in the order of the table
unfoldable pub shown_options : List Shown
shown_options =
    shown (codes "PATH") (codes "read this Compose file; later ones are merged over earlier ones")
    ∷ shown (codes "NAME") (codes "name the project")
    ∷ shown (codes "PATH") (codes "resolve relative paths against this directory")
    ∷ shown (codes "NAME") (codes "enable the services of this profile")
    ∷ shown (codes "PATH") (codes "take variables from this file")
    ∷ shown (codes "N") (codes "use N workers, 1 to 16, or -1 for 16; 4 by default")
    ∷ shown (codes "PATH") (codes "reach the Engine at this socket")
    ∷ shown (codes "") (codes "use an Engine in memory, which is empty at first")
    ∷ shown (codes "PATH") (codes "stop once there is a file at this path")
    ∷ shown (codes "yaml|json") (codes "print the page in this form; yaml by default")
    ∷ shown (codes "") (codes "check the project and print nothing")
    ∷ shown (codes "") (codes "leave the containers running, as up always does")
    ∷ shown (codes "") (codes "remove containers of services that the project lacks")
    ∷ shown (codes "") (codes "wait until the services run, are healthy or have completed")
    ∷ shown (codes "N") (codes "wait for at most N seconds")
    ∷ shown (codes "") (codes "remove the project's volumes too")
    ∷ shown (codes "N") (codes "give a container N seconds to stop")
    ∷ shown (codes "SERVICE=N") (codes "run N containers of this service, 0 to 100")
    ∷ shown (codes "N") (codes "serve N connections, 1 to 1000000")
    ∷ []

-- what is shown of each command, in the order of the table
unfoldable pub shown_commands : List Shown
shown_commands =
    shown (codes "") (codes "print the project as one normalized page")
    ∷ shown (codes "") (codes "create and start what the project declares")
    ∷ shown (codes "") (codes "stop and remove the project's containers and networks")
    ∷ shown (codes "N") (codes "run a project of N services, 1 to 1000, against an Engine in memory")
    ∷ shown (codes "") (codes "wait until the services run, are healthy or have completed")
    ∷ shown (codes "") (codes "print what the project's containers wrote")
    ∷ shown (codes "") (codes "serve an Engine in memory at a socket")
    ∷ []

-- what is only shown of a line of the program's own tables
abbrev pub shown_option : OptionLine → Shown
shown_option line = shown line.argument.now line.help.now

-- the same of a line of the table of commands
abbrev pub shown_command : CommandLine → Shown
shown_command line = shown line.argument.now line.help.now

-- the word of a command
abbrev pub command_word : CommandName → List ℕ
command_word name = option_map_or (λ (names : CommandNames). names.word) (find (λ names. same_command names.rule.name name) command_table) []

-- the name of a value behind what takes it, where there is one
abbrev pub argument_text : List ℕ → List ℕ
argument_text argument = if length argument == 0 then [] else codes " " ++ argument

-- an option's short name before its long one, or the room of one
abbrev pub short_text : Option (List ℕ) → List ℕ
short_text None = codes "    "
short_text (Some short) = short ++ codes ", "

-- the commands that an option is for, where it isn't for every one
abbrev pub users_text : Users → List ℕ
users_text Every = []
users_text (One command) = codes " (" ++ command_word command ++ codes ")"
users_text (Two command other) = codes " (" ++ command_word command ++ codes ", " ++ command_word other ++ codes ")"

-- names, blanks up to a column, and an explanation
abbrev pub explained : List ℕ → List ℕ → List ℕ
explained names help = names ++ replicate (32 - length names) 32 ++ help

-- the line of a command
abbrev pub command_text : CommandNames → Shown → List ℕ
command_text names shown = explained (codes "  " ++ names.word ++ argument_text shown.argument) shown.help ++ codes "\n"

-- the line of an option
abbrev pub option_text : OptionNames → Shown → List ℕ
option_text names shown =
    explained (codes "  " ++ short_text names.short ++ names.long ++ argument_text shown.argument) shown.help ++ users_text names.rule.users ++ codes "\n"

-- the lines of a table, beside what is shown of each
abbrev pub lines_of : {Names : Type 0} → (Names → Shown → List ℕ) → List Names → List Shown → List ℕ
lines_of line (names ∷ more) (shown ∷ others) = line names shown ++ lines_of line more others
lines_of line names others = []

-- what stands above the commands
unfoldable pub commands_head : List ℕ
commands_head =
    codes "Usage: compose [OPTION..] COMMAND [OPTION..]\n"
    ++ codes "\n"
    ++ codes "Takes a Compose project to running containers.\n"
    ++ codes "\n"
    ++ codes "Commands:\n"

-- what stands above the options
unfoldable pub options_head : List ℕ
options_head =
    codes "\n"
    ++ codes "Options, before or behind the command; a value is the next word, or stands behind `=`:\n"

-- what stands below the options
unfoldable pub usage_end : List ℕ
usage_end =
    codes "\n"
    ++ codes "compose --help and compose --version print this text and the version.\n"
    ++ codes "\n"
    ++ codes "A command that isn't built yet is read, and then refused by the line `not built: words`.\n"
    ++ codes "\n"
    ++ codes "Exit statuses:\n"
    ++ codes "  0  done\n"
    ++ codes "  1  the command line is refused, or DOCKER_HOST isn't a unix:// address\n"
    ++ codes "  2  the project is refused\n"
    ++ codes "  3  the Engine refused a request, or the project doesn't fit what is there\n"
    ++ codes "  4  a condition of a service failed\n"
    ++ codes "  5  stopped by the stop file\n"
    ++ codes "  6  the time was over, or a run took too many steps\n"
    ++ codes "  7  a file, the output or the Engine's connection failed\n"
    ++ codes "  8  a limit was passed\n"
    ++ codes "  9  no memory was left\n"

-- the usage text: a line for each command and each option of the tables
unfoldable pub usage : List ℕ
usage = commands_head ++ lines_of command_text command_table shown_commands ++ options_head ++ lines_of option_text option_table shown_options ++ usage_end
