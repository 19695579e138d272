-- What is said of files that aren't read.
use Rattle.std.specs.Prelude.{ℕ, Bool, true, false, List, [], ◌∷◌, ◌++◌, codes}
use Rattle.compose_words.specs.declared.Command.{Command}
use Rattle.compose_words.specs.declared.Options.{Options}
use Rattle.run_model.specs.Shown.{shown}

-- what is said of a file beside the default one, which docker compose would read
abbrev pub unread_note : List ℕ → List ℕ
unread_note path = shown path ++ codes " isn't read: files beside the default one are given by -f"

-- a command reads the files of a project
abbrev pub reads_files : Command → Bool
reads_files (Command.Config json quiet) = true
reads_files (Command.Up orphans wait wait_seconds scale) = true
reads_files (Command.Down orphans volumes seconds) = true
reads_files command = false

-- with these files given, a command looks for the default one: there is none of them
abbrev pub looks_for : Command → List (List ℕ) → Bool
looks_for command [] = reads_files command
looks_for command (file ∷ files) = false

-- a call looks for the default file
abbrev pub looks_for_file : Options → Bool
looks_for_file options = looks_for options.command options.files
