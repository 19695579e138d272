-- Laws of the variables of a call, above their definitions.
use Rattle.dotenv.specs.Variables.{Sees}
use Rattle.loaded_files.specs.EnvFiles.{with_all}
use Rattle.loaded_files.specs.Paths.{Variables}
use Rattle.tree_base.specs.Entries.{HasDistinctKeys}

-- variables that are laid over others win: each has the value that the upper ones give it, else that of the lower ones
abbrev pub UpperVariablesWin : Type 0
UpperVariablesWin = (lower upper : Variables) → HasDistinctKeys upper → Sees upper lower (with_all lower upper)
