-- An Engine in memory with a plan of faults, as one whose answers are determined.
use Rattle.std.specs.Prelude.{◌≡◌, false, if◌then◌else◌}
use Rattle.engine_types.specs.declared.Engine.{Engine}
use Rattle.engine_types.specs.declared.Outcome.{Outcome}
use Rattle.engine_types.specs.declared.Request.{Request}
use Rattle.engine_types.specs.declared.WireEnd.{WireEnd}
use Rattle.engine_hand.specs.Fates.{ComesTo, fate_of, is_asked, lacks_id}
use Rattle.engine_hand.specs.declared.fate.Fate.{Fate}
use Rattle.memory_engine.specs.Serving.{served}
use Rattle.memory_engine.specs.declared.catalogue.Catalogue.{Catalogue}
use Rattle.memory_engine.specs.declared.faults.FaultPlan.{FaultPlan}
use Rattle.outside_files.specs.Counts.{one_more}
use Rattle.run_model.specs.Logs.{is_memory}
use Rattle.deterministic_runs.specs.Allowed.{Rules, Stand}

-- what an exchange of this fate comes to where no memory is wanted: its outcome, and what the Engine then holds
abbrev pub coming : Fate → Catalogue → Engine → Request → Outcome × Engine
coming Fate.Answered catalogue engine request =
    (Outcome.Answered (served catalogue engine request).0, (served catalogue engine request).1)
coming Fate.LostAfter catalogue engine request = (
  Outcome.Lost WireEnd.Fault,
  if lacks_id engine request then engine else (served catalogue engine request).1,
)
coming Fate.LostBefore catalogue engine request = (Outcome.Lost WireEnd.Fault, engine)
coming Fate.NotSent catalogue engine request = (Outcome.NotSent, engine)

-- an Engine in memory on which these images can be pulled, with this plan of faults
abbrev pub rules_of : Catalogue → FaultPlan → Rules
rules_of catalogue plan = record {
  next = λ stand request.
      coming (fate_of plan (one_more stand.made)) catalogue stand.engine request;
  asked = is_asked plan.asked_from;
}

-- where no memory is wanted, an exchange on an Engine in memory comes to what its rules say
abbrev pub MemoryIsDetermined : Type 0
MemoryIsDetermined =
    (catalogue : Catalogue) (plan : FaultPlan) (stand : Stand) (request : Request)
    (outcome : Outcome) (new : Engine)
    → is_memory outcome ≡ false
    → ComesTo (fate_of plan (one_more stand.made)) catalogue stand.engine request outcome new
    → (rules_of catalogue plan).next stand request ≡ (outcome, new)
