-- The lines of a wait.
use Rattle.std.specs.Prelude.{ℕ, List, ◌++◌, codes, flat_map}
use Rattle.engine_types.specs.declared.Declared.{Declared}
use Rattle.run_model.specs.Lines.{line}
use Rattle.wait_run.specs.Ends.{name_at}

-- the line of the slot at a place, whose goal was met
abbrev pub met_line : Declared → ℕ → List ℕ
met_line declared s = line (codes "container " ++ name_at declared s ++ codes " met")

-- what a wait prints: such a line for each slot whose goal was met, in the order in which they first were
abbrev pub met_lines : Declared → List ℕ → List ℕ
met_lines declared met = flat_map (met_line declared) met
