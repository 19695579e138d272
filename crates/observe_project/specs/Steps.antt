-- A step of an observation: the exchanges that it made lead on from what was to come before it to what comes after it.
use Rattle.std.specs.Prelude.{◌≡◌, ◌⊎◌, ℕ, List, [], ◌∷◌, ◌++◌, Option, Result, Ok, Err, IfErr, true}
use Rattle.engine_types.specs.declared.Exchange.{Exchange}
use Rattle.engine_types.specs.declared.Outcome.{Outcome}
use Rattle.engine_types.specs.declared.Request.{Request}
use Rattle.engine_types.specs.declared.SeenEnd.{SeenEnd}
use Rattle.engine_types.specs.declared.SeenFault.{SeenFault}
use Rattle.run_model.specs.Observation.{Onward, Ends, is_asked}
use Rattle.outside_api.specs.Hands.{Heard, HasCause}
use Rattle.outside_api.specs.Standings.{Makes, Standing}
use Rattle.observe_project.specs.Exchanges.{HasCauseOfFault}

-- an observation that has come here may end with this fault: because its exchanges say so, or for want of memory
abbrev pub MayEnd : Onward → SeenFault → Type 0
MayEnd here fault =
    (here ≡ Ends (SeenEnd.Bad fault)) ⊎ ((fault ≡ SeenFault.Memory) × (is_asked here ≡ true))

-- what a step gives leads on: with a value the same exchanges follow, and with a fault the observation may end
abbrev pub Leads : {X : Type 0} → (List Exchange → Onward) → (X → List Exchange → Onward)
    → Result X SeenFault → Type 0
Leads from onward (Ok x) = (rest : List Exchange) → from rest ≡ onward x rest
Leads from onward (Err fault) = MayEnd (from []) fault

-- a fault of a step has its cause in the outcome of its exchange
abbrev pub ComesFrom : {X : Type 0} → Request → Outcome → Result X SeenFault → Type 0
ComesFrom request outcome result = (heard : Option (List Heard)) (old new : ℕ)
    → HasCause request heard old new outcome → IfErr result (HasCauseOfFault heard old new)

-- what is read from the outcome of a request
pub record Reads {X : Type 0} (from : List Exchange → Onward)
    (onward : X → List Exchange → Onward) (request : Request) (outcome : Outcome)
    (result : Result X SeenFault) : Type 0 where
  pub leads : Leads from onward result
  pub cause : ComesFrom request outcome result

-- a request was sent, or there was no memory for it and nothing was done
abbrev pub Asked : Request → Result Exchange SeenFault → Standing → Standing → Type 0
Asked request (Ok exchange) old new =
    (exchange.request ≡ request) × Makes (exchange ∷ []) old new
    × HasCause exchange.request new.heard old.faults new.faults exchange.outcome
Asked request (Err fault) old new = (fault ≡ SeenFault.Memory) × (new ≡ old)

-- a step of an observation: the exchanges that were made with the hand were kept, and lead on
pub record Steps {X : Type 0} (from : List Exchange → Onward)
    (onward : X → List Exchange → Onward) (result : Result X SeenFault)
    (kept_before kept_after : List Exchange) (old new : Standing) : Type 0 where
  pub made : List Exchange
  pub kept : kept_after ≡ kept_before ++ made
  pub makes : Makes made old new
  pub leads : Leads (λ rest. from (made ++ rest)) onward result
  pub cause : IfErr result (HasCauseOfFault new.heard old.faults new.faults)
