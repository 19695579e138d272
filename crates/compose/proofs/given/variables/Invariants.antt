use Rattle.std.proofs.Common.{◌≡◌, take}
use Rattle.compose.specs.Given.{variables_in}
use Rattle.compose.proofs.given.variables.Given as goal

abbrev pub invariant-loop-entry : goal.invariant-loop-entry
invariant-loop-entry g l = l.variables ≡ variables_in (take l.entry-index l.entry-items)
