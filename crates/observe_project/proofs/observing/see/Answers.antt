use Rattle.run_model.specs.Observation.{ending, judging, observed}
use Rattle.engine_types.specs.declared.Seen.{Seen}
use Rattle.engine_types.specs.declared.SeenEnd.{SeenEnd}
use Rattle.observe_project.proofs.Walks.{exits, step-failed, step-then}
use Rattle.observe_project.proofs.observing.see.Goals as goal

pub returns-in_err-listed : goal.returns-in_err-listed
returns-in_err-listed g c =
    let d = c.args.declared.now in let p = c.args.purpose in
    rw (exits c.from_residual.result c.in_err-listed.field-0.0 c.from_residual.ensures)
    (step-failed (λ (s : Seen). ending (SeenEnd.Good s)) (observed d p) (judging d p) c.in_err-listed.field-0.0 _ _ _ _ (c.in_err-listed.ensures p))

pub returns : goal.returns
returns g c =
    let d = c.args.declared.now in let p = c.args.purpose in
    step-then (λ (s : Seen). ending (SeenEnd.Good s)) (observed d p) (judging d p) c.in_ok-listed.listed c.look.result _ _ _ _ _ _ (c.in_ok-listed.ensures p) c.look.ensures
