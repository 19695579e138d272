use Rattle.std.proofs.Common.{None, ap}
use Rattle.std.specs.Prelude.{Ok}
use Rattle.run_model.specs.Observation.{after_judging, ending, images_of, seeing_images}
use Rattle.engine_types.specs.declared.Seen.{Seen}
use Rattle.engine_types.specs.declared.SeenEnd.{SeenEnd}
use Rattle.observe_project.proofs.Walks.{step-along, step-none}
use Rattle.observe_project.proofs.observing.look_at_images.Goals as goal

pub returns-in-Up : goal.returns-in-Up
returns-in-Up g c =
    let d = c.args.declared.now in
    step-along (λ (s : Seen). ending (SeenEnd.Good s)) (after_judging d c.args.purpose c.args.seen None) (seeing_images d (images_of d) c.args.seen) c.see_images.result _ _ _ _
    (λ rest. ap (λ q. after_judging d q c.args.seen None rest) c.in-Up.is) c.see_images.ensures

pub returns-in-Down : goal.returns-in-Down
returns-in-Down g c =
    let d = c.args.declared.now in
    step-none (λ (s : Seen). ending (SeenEnd.Good s)) (after_judging d c.args.purpose c.args.seen None) (Ok c.args.seen) _ _
    (λ rest. ap (λ q. after_judging d q c.args.seen None rest) c.in-Down.is) tt
