use Rattle.std.proofs.Common.{ℕ, List, refl}
use Rattle.engine_types.specs.declared.Exchange.{Exchange}
use Rattle.engine_types.specs.declared.Outcome.{Outcome}
use Rattle.engine_types.specs.declared.Request.{Request}
use Rattle.run_model.specs.Observation.{Onward, by_policy, policy_of, seeing_images, with_image}
use Rattle.observe_project.proofs.Onward.{seeing_asked}
use Rattle.observe_project.proofs.Readings.{reads-value}
use Rattle.observe_project.proofs.Walks.{exits, step-and, step-failed}
use Rattle.observe_project.proofs.fetching.see_next.Goals as goal

pub returns-in_err-id : goal.returns-in_err-id
returns-in_err-id g c = λ images.
    let declared = c.args.declared.now in
    let on : List ℕ → List Exchange → Onward = λ id. seeing_images declared images (with_image c.args.seen c.args.image.now id) in
    rw (exits c.from_residual.result c.in_err-id.field-0.0 c.from_residual.ensures)
    (step-failed (seeing_images declared images) (by_policy declared (policy_of declared c.args.image.now) c.args.image.now on) on c.in_err-id.field-0.0 _ _ _ _
    (c.in_err-id.ensures on (λ id. seeing_asked declared images (with_image c.args.seen c.args.image.now id))))

pub returns : goal.returns
returns g c = λ images.
    let declared = c.args.declared.now in
    let on : List ℕ → List Exchange → Onward = λ id. seeing_images declared images (with_image c.args.seen c.args.image.now id) in
    let r = reads-value (on c.in_ok-id.id) (seeing_images declared images) (Request.Image c.args.image.now) Outcome.Memory (with_image c.args.seen c.args.image.now c.in_ok-id.id) c.with_image.result c.or_memory.result
    (λ rest. refl) (seeing_asked declared images (with_image c.args.seen c.args.image.now c.in_ok-id.id)) c.with_image.ensures c.or_memory.ensures in
    step-and (seeing_images declared images) (by_policy declared (policy_of declared c.args.image.now) c.args.image.now on) on c.in_ok-id.id c.or_memory.result _ _ _ _
    (c.in_ok-id.ensures on (λ id. seeing_asked declared images (with_image c.args.seen c.args.image.now id))) r.leads (r.cause _ _ _ tt)
