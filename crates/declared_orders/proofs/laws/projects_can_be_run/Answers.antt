use Rattle.declared_laws.proofs.OwnSpecs.{declares_own}
use Rattle.declared_laws.proofs.Whole.{declares_whole}
use Rattle.declared_set.specs.Declaring.{declared_of}
use Rattle.declared_orders.proofs.Circles.{none_declared}
use Rattle.declared_orders.proofs.Places.{needs_dependencies}
use Rattle.declared_orders.proofs.laws.projects_can_be_run.Goals as goal

pub returns : goal.returns
returns c loaded scales digests seen orphans volumes order numbered none =
    c.runs_are_orderly.ensures (declared_of loaded scales digests) seen orphans volumes (declares_whole loaded scales digests order)
    (λ slot m. (declares_own loaded scales digests numbered slot m).number) (none_declared loaded scales digests order none)
    (needs_dependencies loaded scales digests)
