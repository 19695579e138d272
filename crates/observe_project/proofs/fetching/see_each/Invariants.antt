use Rattle.std.proofs.Common.{drop}
use Rattle.std.specs.Prelude.{Ok}
use Rattle.run_model.specs.Observation.{seeing_images}
use Rattle.outside_api.specs.Standings.{standing}
use Rattle.observe_project.specs.Steps.{Steps}
use Rattle.observe_project.proofs.fetching.see_each.Given as goal

abbrev pub invariant-loop-image : goal.invariant-loop-image
invariant-loop-image g l =
    Steps (seeing_images l.declared l.images l.fn.begun) (seeing_images l.declared (drop l.image-index l.images)) (Ok l.seen) l.fn.exchanges.items l.exchanges.items
    (standing (g.H.Hand.log l.fn.hand) (g.H.Hand.engine l.fn.hand) (g.H.Hand.heard l.fn.hand) (g.H.Hand.faults l.fn.hand) (g.H.Hand.clock l.fn.hand))
    (standing (g.H.Hand.log l.hand) (g.H.Hand.engine l.hand) (g.H.Hand.heard l.hand) (g.H.Hand.faults l.hand) (g.H.Hand.clock l.hand))
