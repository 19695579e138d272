-- Laws on the Engines that calls ask for.
use Rattle.std.specs.Prelude.{◌≡◌, ℕ, List, Ok, Some, true, false}
use Rattle.asked_target.specs.Targets.{asked_target, has_bad_host, makes_hands}
use Rattle.compose_words.specs.declared.Options.{Options}
use Rattle.file_paths.specs.Paths.{Variables}
use Rattle.outside_api.specs.declared.plug.Target.{Target}

-- a command that speaks with an Engine asks for one, from whatever directory, unless it uses a variable that names none
abbrev pub GoodHostsHaveTargets : Type 0
GoodHostsHaveTargets =
    (options : Options) (env : Variables) (directory : List ℕ)
    → makes_hands options.command ≡ true → has_bad_host options env ≡ false
    → (target : Target) × (asked_target options env directory ≡ Ok (Some target))
