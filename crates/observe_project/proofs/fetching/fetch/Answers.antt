use Rattle.std.proofs.Common.{ap}
use Rattle.std.specs.Prelude.{Ok}
use Rattle.run_model.specs.Observation.{builder_of, fetching, wanting}
use Rattle.observe_project.specs.Reading.{found_or_wanted}
use Rattle.observe_project.proofs.Walks.{exits, step-along, step-and, step-failed, step-then}
use Rattle.observe_project.proofs.fetching.fetch.Goals as goal

pub returns-in_err-found : goal.returns-in_err-found
returns-in_err-found g c = λ onward each.
    let b = builder_of c.args.declared.now c.args.image.now in
    rw (exits c.from_residual.result c.in_err-found.field-0.0 c.from_residual.ensures)
    (step-failed onward (fetching b c.args.image.now onward) (found_or_wanted b c.args.image.now onward) c.in_err-found.field-0.0 _ _ _ _ (c.in_err-found.ensures b onward each))

pub returns-in-Some : goal.returns-in-Some
returns-in-Some g c = λ onward each.
    let b = builder_of c.args.declared.now c.args.image.now in
    step-and onward (fetching b c.args.image.now onward) (found_or_wanted b c.args.image.now onward) c.in_ok-found.found (Ok c.in-Some.id) _ _ _ _ (c.in_ok-found.ensures b onward each)
    (λ rest. ap (λ f. found_or_wanted b c.args.image.now onward f rest) c.in-Some.is) tt

pub returns-in-None : goal.returns-in-None
returns-in-None g c = λ onward each.
    let b = builder_of c.args.declared.now c.args.image.now in
    step-then onward (fetching b c.args.image.now onward) (found_or_wanted b c.args.image.now onward) c.in_ok-found.found c.want.result _ _ _ _ _ _ (c.in_ok-found.ensures b onward each)
    (step-along onward (found_or_wanted b c.args.image.now onward c.in_ok-found.found) (wanting b c.args.image.now onward) c.want.result _ _ _ _
    (λ rest. ap (λ f. found_or_wanted b c.args.image.now onward f rest) c.in-None.is) (c.want.ensures onward each))
