-- The lines that `simulate` prints.
use Rattle.std.specs.Prelude.{ℕ, List, ◌++◌, codes, decimal}
use Rattle.run_counts.specs.declared.counts.RunCounts.{RunCounts}
use Rattle.run_counts.specs.declared.lines.Simulated.{Simulated}

-- the lines of the command, and of how many services its project has
unfoldable pub head_lines : ℕ → List ℕ
head_lines number = codes "simulate " ++ decimal number ++ codes "\nservices " ++ decimal number ++ codes "\n"

-- the line of a run: its place, its exit status, how many actions it sent, and how many of them ended well
unfoldable pub run_line : ℕ → RunCounts → List ℕ
run_line place run =
    codes "run " ++ decimal place ++ codes " status " ++ decimal run.status ++ codes " sent " ++ decimal run.sent
    ++ codes " answered " ++ decimal run.answered ++ codes "\n"

-- the lines of what all runs made: how many containers they asked for, and how many there are
unfoldable pub last_lines : ℕ → ℕ → List ℕ
last_lines creates containers = codes "creates " ++ decimal creates ++ codes "\ncontainers " ++ decimal containers ++ codes "\n"

-- all eight lines
abbrev pub simulated_text : Simulated → List ℕ
simulated_text simulated =
    head_lines simulated.number
    ++ run_line 1 simulated.first ++ run_line 2 simulated.second ++ run_line 3 simulated.third ++ run_line 4 simulated.last
    ++ last_lines simulated.creates simulated.containers
