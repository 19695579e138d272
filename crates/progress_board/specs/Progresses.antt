-- What a call tells of what it is at, by the variable COMPOSE_PROGRESS.
use Rattle.std.specs.Prelude.{ℕ, List, Bool, not, ◌||◌, if◌then◌else◌, codes}
use Rattle.std.specs.Str.{bytes_eq}
use Rattle.progress_board.specs.declared.progress.Progress.{Progress}

-- `plain` asks for lines that stay, `quiet` for none; else there is a line that is taken away, on a terminal alone
abbrev pub progress_of : List ℕ → Bool → Progress
progress_of value terminal =
    if bytes_eq value (codes "plain") then Progress.Plain
    else if bytes_eq value (codes "quiet") || not terminal then Progress.Quiet
    else Progress.Terminal
