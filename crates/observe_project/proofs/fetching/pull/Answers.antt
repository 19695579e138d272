use Rattle.run_model.specs.Observation.{inspecting, pulling}
use Rattle.observe_project.proofs.Walks.{exits, step-failed, step-then}
use Rattle.observe_project.proofs.fetching.pull.Goals as goal

pub returns-in_err-ask_to_pull : goal.returns-in_err-ask_to_pull
returns-in_err-ask_to_pull g c = λ onward each.
    rw (exits c.from_residual.result c.in_err-ask_to_pull.field-0.0 c.from_residual.ensures)
    (step-failed onward (pulling c.args.image.now onward) (λ (u : Unit {0}). inspecting c.args.image.now onward) c.in_err-ask_to_pull.field-0.0 _ _ _ _ (c.in_err-ask_to_pull.ensures onward))

pub returns : goal.returns
returns g c = λ onward each.
    step-then onward (pulling c.args.image.now onward) (λ (u : Unit {0}). inspecting c.args.image.now onward) tt c.inspect.result _ _ _ _ _ _ (c.in_ok-ask_to_pull.ensures onward) (c.inspect.ensures onward each)
