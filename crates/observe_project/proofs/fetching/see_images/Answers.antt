use Rattle.std.proofs.Common.{◌≡◌, sym, ap, ◌∙◌}
use Rattle.run_model.specs.Observation.{ending, images_of, seeing_images}
use Rattle.engine_types.specs.declared.Seen.{Seen}
use Rattle.engine_types.specs.declared.SeenEnd.{SeenEnd}
use Rattle.observe_project.proofs.Onward.{seeing_asked}
use Rattle.observe_project.proofs.Walks.{copied, exits, no_memory, step-along, step-short}
use Rattle.observe_project.proofs.fetching.see_images.Goals as goal

pub returns-in_err-images : goal.returns-in_err-images
returns-in_err-images g c =
    let declared = c.args.declared.now in
    rw (exits c.from_residual.result c.in_err-images.field-0.0 c.from_residual.ensures)
    (step-short (λ (s : Seen). ending (SeenEnd.Good s)) (seeing_images declared (images_of declared) c.args.seen) c.in_err-images.field-0.0 _ _
    (no_memory _ c.in_err-images.field-0.0 c.in_err-images.ensures) (seeing_asked declared (images_of declared) c.args.seen))

pub returns : goal.returns
returns g c =
    let declared = c.args.declared.now in
    let is : c.as_slice.result.now ≡ images_of declared = c.as_slice.ensures ∙ copied _ _ _ c.images_of.ensures c.in_ok-images.ensures in
    step-along (λ (s : Seen). ending (SeenEnd.Good s)) (seeing_images declared (images_of declared) c.args.seen) (seeing_images declared c.as_slice.result.now c.args.seen) c.see_each.result _ _ _ _
    (λ rest. ap (λ l. seeing_images declared l c.args.seen rest) (sym is)) c.see_each.ensures
