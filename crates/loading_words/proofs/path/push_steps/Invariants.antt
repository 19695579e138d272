use Rattle.std.proofs.Common.{◌≡◌, ◌++◌, take}
use Rattle.std.specs.List.{flat_map}
use Rattle.loading_words.specs.Paths.{step_words}
use Rattle.loading_words.proofs.path.push_steps.Given as goal

abbrev pub invariant-loop-step : goal.invariant-loop-step
invariant-loop-step l = l.words ≡ l.fn.words ++ flat_map step_words (take l.step-index l.steps)
