use Rattle.std.proofs.Common.{sym, ap}
use Rattle.run_model.specs.Observation.{builder_of, pulling, wanting}
use Rattle.observe_project.proofs.Walks.{step-along, want-built}
use Rattle.observe_project.proofs.fetching.want.Goals as goal

pub returns-in-Some : goal.returns-in-Some
returns-in-Some g c = λ onward each.
    want-built _ c.in-Some.slot.now c.args.image.now onward c.needs_build.result _ _ c.in-Some.ensures c.needs_build.ensures

pub returns-in-None : goal.returns-in-None
returns-in-None g c = λ onward each.
    step-along onward (wanting (builder_of c.args.declared.now c.args.image.now) c.args.image.now onward) (pulling c.args.image.now onward) c.pull.result _ _ _ _
    (λ rest. ap (λ b. wanting b c.args.image.now onward rest) (sym c.in-None.ensures)) (c.pull.ensures onward each)
