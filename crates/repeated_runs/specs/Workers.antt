-- How many workers a call's words ask for.
use Rattle.std.specs.Prelude.{ℕ, List, Result, Ok, Err}
use Rattle.asked_project.specs.Asking.{Variables, options_asked}
use Rattle.compose_words.specs.declared.Options.{Options}
use Rattle.refusals.specs.declared.Refusal.{Refusal}

-- how many workers options ask for, where there are such
abbrev pub workers_in : Result Options Refusal → ℕ
workers_in (Ok options) = options.parallel
workers_in (Err refusal) = 0

-- how many workers words ask for: those of `--parallel`, 1 to 16, and 4 where nothing is said; none where the words are refused
abbrev pub workers_asked : List (List ℕ) → Variables → ℕ
workers_asked words env = workers_in (options_asked words env)
