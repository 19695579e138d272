-- Which Engine a run speaks with, and which file stops it.
use Rattle.std.specs.Prelude.{◌≡◌, ℕ, List, Ok, Some}
use Rattle.asked_project.specs.Asking.{Variables}
use Rattle.asked_target.specs.Targets.{asked_target}
use Rattle.compose_words.specs.declared.Options.{Options}
use Rattle.outside_api.specs.declared.plug.Target.{Target}

-- options, variables and a directory ask for an Engine
abbrev pub IsReachable : Options → Variables → List ℕ → Type 0
IsReachable options env directory =
    (target : Target) × (asked_target options env directory ≡ Ok (Some target))
