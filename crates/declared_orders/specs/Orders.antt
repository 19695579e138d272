-- In which order the slots of a project's services can be started.
use Rattle.std.specs.Prelude.{◌≡◌, Bool, List, None}
use Rattle.compose_words.specs.declared.options.Scale.{Scale}
use Rattle.declared_laws.specs.Laws.{AreNumbered}
use Rattle.declared_set.specs.Declaring.{declared_of}
use Rattle.declared_set.specs.declared.LoadedProject.{LoadedProject}
use Rattle.engine_types.specs.declared.Seen.{Seen}
use Rattle.plan_core.specs.Order.{HasNoCycle}
use Rattle.run_laws.specs.Orders.{NeedsDependencies}
use Rattle.run_model.specs.Plans.{IsOrderly, basis_of, down_aim, up_aim}
use Rattle.run_model.specs.Rolling.{run_actions}
use Rattle.service_graph.specs.Cycles.{cycle}
use Rattle.service_hashes.specs.declared.digest.FileDigest.{FileDigest}
use Rattle.typed_project.specs.Projects.{IsInOrder}

-- slots need only slots of the services that their own service depends on (the Compose Specification, `depends_on`)
abbrev pub SlotsNeedDependencies : Type 0
SlotsNeedDependencies =
    (loaded : LoadedProject) (scales : List Scale) (digests : List FileDigest) → NeedsDependencies (declared_of loaded scales digests)

-- where no services need one another in a circle, neither do the slots that are declared
abbrev pub NoCircleIsDeclared : Type 0
NoCircleIsDeclared =
    (loaded : LoadedProject) (scales : List Scale) (digests : List FileDigest)
    → IsInOrder loaded.project.services → cycle loaded.project.services ≡ None → HasNoCycle (declared_of loaded scales digests)

-- the actions of runs that bring a project up or down, whatever was seen of it, can be carried out in some order
abbrev pub ProjectsCanBeRun : Type 0
ProjectsCanBeRun =
    (loaded : LoadedProject) (scales : List Scale) (digests : List FileDigest) (seen : Seen) (orphans volumes : Bool)
    → IsInOrder loaded.project.services → AreNumbered scales loaded.project.services → cycle loaded.project.services ≡ None
    → let declared = declared_of loaded scales digests in
    IsOrderly declared (run_actions (basis_of declared seen (up_aim orphans)))
    × IsOrderly declared (run_actions (basis_of declared seen (down_aim orphans volumes)))
