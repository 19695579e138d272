-- Laws of the definitions of a run.
use Rattle.std.specs.Prelude.{◌≡◌, ◌↔◌, ◌∷◌, ◌++◌, ◌≤◌, ℕ, List, None, Some, map, true}
use Rattle.std.specs.List.{IsDistinct}
use Rattle.std.specs.Str.{bytes_eq}
use Rattle.engine_types.specs.declared.Aim.{Aim}
use Rattle.engine_types.specs.declared.Declared.{Declared}
use Rattle.engine_types.specs.declared.DeclaredService.{DeclaredService}
use Rattle.engine_types.specs.declared.Engine.{Engine}
use Rattle.engine_types.specs.declared.Entry.{Entry}
use Rattle.engine_types.specs.declared.Exchange.{Exchange}
use Rattle.engine_types.specs.declared.Purpose.{Purpose}
use Rattle.engine_types.specs.declared.Reply.{Reply}
use Rattle.engine_types.specs.declared.Request.{Request}
use Rattle.engine_types.specs.declared.Seen.{Seen}
use Rattle.engine_types.specs.declared.SeenEnd.{SeenEnd}
use Rattle.run_model.specs.Conditions.{is_allowed}
use Rattle.run_model.specs.Ending.{first_fault, status_of}
use Rattle.run_model.specs.EngineRules.{Among, Answers}
use Rattle.run_model.specs.Journals.{Setup, claims}
use Rattle.run_model.specs.Legal.{IsLegal, IsReady}
use Rattle.run_model.specs.Observation.{Asks, Ends, is_asked, is_request, is_up, observed}
use Rattle.run_model.specs.Logs.{asker}
use Rattle.run_model.specs.Plans.{Basis, HasPlan, HasServices, IsPlanOf, LeavesKept, planned}
use Rattle.run_model.specs.Rolling.{run_actions}
use Rattle.run_model.specs.Told.{IsTold}

-- a refusal changes nothing
abbrev pub RefusalChangesNothing : Type 0
RefusalChangesNothing =
    (old new : Engine) (request : Request) (status : ℕ) (message : List ℕ)
    → Answers old request (Reply.Refused status message) new → new ≡ old

-- a run's status is 0 exactly where no entry fails
abbrev pub StatusIsZeroWithoutFault : Type 0
StatusIsZeroWithoutFault =
    (setup : Setup) (past : List Entry) → (status_of setup past ≡ 0)
    ↔ (first_fault setup past ≡ None)

-- the plan, as it is listed, has each wanted action once, with exactly its needs
abbrev pub PlannedIsPlan : Type 0
PlannedIsPlan = (basis : Basis) → IsPlanOf basis (planned basis)

-- the actions of a run are the plan's, and each needs at least what it needs in the plan
abbrev pub RunsHavePlans : Type 0
RunsHavePlans = (basis : Basis) → HasPlan basis (run_actions basis)

-- where no service is to be replaced a few slots at a time, the actions of a run are the plan's, with its needs
abbrev pub UnrolledIsPlanned : Type 0
UnrolledIsPlanned =
    (basis : Basis)
    → ((service : DeclaredService) → Among basis.declared.services service → service.roll ≡ None)
    → run_actions basis ≡ planned basis

-- each claim of a legal journal stands where its action is allowed: it wasn't claimed before, all that it needs ended well, and
-- each need of the slot that it starts lets it go
abbrev pub ClaimsAreAllowed : Type 0
ClaimsAreAllowed =
    (aim : Aim) (setup : Setup) (past : List Entry) (w a : ℕ)
    → IsLegal aim setup (Entry.Claim w a ∷ past) → is_allowed setup past a ≡ true

-- in a legal journal no action is claimed twice
abbrev pub ActionsAreClaimedOnce : Type 0
ActionsAreClaimedOnce =
    (aim : Aim) (setup : Setup) (past : List Entry) (a : ℕ) → IsLegal aim setup past
    → claims past a ≤ 1

-- wherever a worker may ask, a legal journal goes on with an entry that answers it
abbrev pub AsksAreAnswered : Type 0
AsksAreAnswered =
    (aim : Aim) (setup : Setup) (past : List Entry) (w : ℕ) → IsLegal aim setup past
    → IsReady setup past w
    → (entry : Entry) × (asker entry ≡ Some w) × IsLegal aim setup (entry ∷ past)

-- where the ids of the seen containers differ and each slot is of a declared service, a plan of `up` leaves kept containers alone
abbrev pub KeptAreLeftAlone : Type 0
KeptAreLeftAlone =
    (basis : Basis) → is_up basis.aim.purpose ≡ true → HasServices basis.declared
    → IsDistinct bytes_eq (map (λ row. row.id) basis.seen.containers) → LeavesKept basis

-- each exchange of an observation is the one that was to come next after those before it
abbrev pub EachExchangeIsAsked : Type 0
EachExchangeIsAsked =
    (declared : Declared) (purpose : Purpose) (before : List Exchange) (exchange : Exchange)
    (after : List Exchange)
    → is_asked (observed declared purpose (before ++ exchange ∷ after)) ≡ true
    → (request : Request) × (observed declared purpose before ≡ Asks request)
    × (is_request request exchange.request ≡ true)

-- where an observation ended well, it saw what its exchanges told
abbrev pub SeenIsTold : Type 0
SeenIsTold = (declared : Declared) (purpose : Purpose) (exchanges : List Exchange) (seen : Seen)
    → observed declared purpose exchanges ≡ Ends (SeenEnd.Good seen)
    → IsTold declared purpose exchanges seen
