-- The row is what stands there, if any.
use Rattle.std.proofs.Common.{◌∙◌, ap, slice_get, sym}
use Rattle.std.specs.Option.{option_and_then}
use Rattle.plan_core.proofs.keeping.row_at.Goals as goal

pub returns-in-Some : goal.returns-in-Some
returns-in-Some c = c.get.ensures.value ∙ ap (option_and_then (slice_get c.args.seen.now.containers)) (sym c.in-Some.is)

pub returns-in-None : goal.returns-in-None
returns-in-None c = ap (option_and_then (slice_get c.args.seen.now.containers)) (sym c.in-None.is)
