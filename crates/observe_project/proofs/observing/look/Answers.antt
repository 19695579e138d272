use Rattle.std.proofs.Common.{None}
use Rattle.std.specs.Prelude.{Ok, Err}
use Rattle.run_model.specs.Observation.{after_judging, ending, judging}
use Rattle.engine_types.specs.declared.Seen.{Seen}
use Rattle.engine_types.specs.declared.SeenEnd.{SeenEnd}
use Rattle.observe_project.proofs.Walks.{exits, step-none, step-then}
use Rattle.observe_project.proofs.observing.look.Goals as goal

pub returns-in_err-seen : goal.returns-in_err-seen
returns-in_err-seen g c =
    let d = c.args.declared.now in let p = c.args.purpose in
    rw (exits c.from_residual.result c.in_err-seen.field-0.0 c.from_residual.ensures)
    (step-none (λ (s : Seen). ending (SeenEnd.Good s)) (judging d p c.args.listed) (Err c.in_err-seen.field-0.0) _ _ c.in_err-seen.ensures.leads (c.in_err-seen.ensures.cause _ _ _))

pub returns : goal.returns
returns g c =
    let d = c.args.declared.now in let p = c.args.purpose in
    let judged = λ (s : Seen). after_judging d p s None in
    step-then (λ (s : Seen). ending (SeenEnd.Good s)) (judging d p c.args.listed) judged c.in_ok-seen.seen c.look_at_images.result _ _ _ _ _ _
    (step-none judged (judging d p c.args.listed) (Ok c.in_ok-seen.seen) _ _ c.in_ok-seen.ensures.leads tt) c.look_at_images.ensures
