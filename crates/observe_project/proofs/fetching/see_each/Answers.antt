use Rattle.std.proofs.Common.{List, ◌∷◌, ◌+◌, drop, refl, ap, arith}
use Rattle.std.specs.Prelude.{Ok, Err}
use Rattle.run_model.specs.Observation.{Onward, ending, seeing_images}
use Rattle.engine_types.specs.declared.Seen.{Seen}
use Rattle.engine_types.specs.declared.SeenEnd.{SeenEnd}
use Rattle.engine_types.specs.declared.Exchange.{Exchange}
use Rattle.observe_project.proofs.ListTests.{drop-next, drop-none}
use Rattle.observe_project.proofs.Walks.{exits, step-along, step-and, step-failed, step-none, step-then}
use Rattle.observe_project.proofs.fetching.see_each.Goals as goal

pub loop-image-init : goal.loop-image-init
loop-image-init g c =
    step-none (seeing_images c.args.declared.now (drop 0 c.args.images.now)) (seeing_images c.args.declared.now c.args.images.now c.args.begun) (Ok c.args.begun) _ _ (λ rest. refl) tt

pub loop-image-preserved : goal.loop-image-preserved
loop-image-preserved g c =
    let declared = c.args.declared.now in let images = c.args.images.now in let i = c.loop-image.image-index in let seen = c.loop-image.seen in
    step-then (seeing_images declared (drop (i + 1) images)) (seeing_images declared images c.args.begun) (seeing_images declared (drop i images)) seen (Ok c.in_ok-next.next) _ _ _ _ _ _
    c.loop-image.invariant
    (step-along (seeing_images declared (drop (i + 1) images)) (seeing_images declared (drop i images) seen) (seeing_images declared (c.image-item.result ∷ drop (i + 1) images) seen)
    (Ok c.in_ok-next.next) _ _ _ _ (λ rest. ap (λ l. seeing_images declared l seen rest) (drop-next images i c.image-item.result (omega arith) c.image-item.is))
    (c.in_ok-next.ensures (drop (i + 1) images)))

pub returns-in_err-next : goal.returns-in_err-next
returns-in_err-next g c =
    let declared = c.args.declared.now in let images = c.args.images.now in let i = c.loop-image.image-index in let seen = c.loop-image.seen in
    let on : Seen → List Exchange → Onward = λ s. ending (SeenEnd.Good s) in
    rw (exits c.from_residual.result c.in_err-next.field-0.0 c.from_residual.ensures)
    (step-then on (seeing_images declared images c.args.begun) (seeing_images declared (drop i images)) seen (Err c.in_err-next.field-0.0) _ _ _ _ _ _
    c.loop-image.invariant
    (step-along on (seeing_images declared (drop i images) seen) (seeing_images declared (c.image-item.result ∷ drop (i + 1) images) seen)
    (Err c.in_err-next.field-0.0) _ _ _ _ (λ rest. ap (λ l. seeing_images declared l seen rest) (drop-next images i c.image-item.result (omega arith) c.image-item.is))
    (step-failed on (seeing_images declared (c.image-item.result ∷ drop (i + 1) images) seen) (seeing_images declared (drop (i + 1) images)) c.in_err-next.field-0.0 _ _ _ _
    (c.in_err-next.ensures (drop (i + 1) images)))))

pub returns : goal.returns
returns g c =
    let declared = c.args.declared.now in let images = c.args.images.now in let i = c.loop-image.image-index in let seen = c.loop-image.seen in
    step-and (λ (s : Seen). ending (SeenEnd.Good s)) (seeing_images declared images c.args.begun) (seeing_images declared (drop i images)) seen (Ok seen) _ _ _ _ c.loop-image.invariant
    (λ rest. ap (λ l. seeing_images declared l seen rest) (drop-none images i c.loop-image-test.false)) tt
