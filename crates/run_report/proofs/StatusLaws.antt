-- The status of a fault isn't 0, and that of an exchange is that of its outcome.
use Rattle.std.proofs.Common.{◌≡◌, ℕ, ◌≤◌, Bool, true, false, Option, Some, None, if◌then◌else◌, refl, ap, ◌∙◌, arith}
use Rattle.std.specs.Option.{option_map_or}
use Rattle.engine_types.specs.declared.Outcome.{Outcome}
use Rattle.engine_types.specs.declared.Request.{Request}
use Rattle.engine_types.specs.declared.RunFault.{RunFault}
use Rattle.engine_types.specs.declared.SeenEnd.{SeenEnd}
use Rattle.engine_types.specs.declared.SeenFault.{SeenFault}
use Rattle.engine_types.specs.declared.WireEnd.{WireEnd}
use Rattle.run_model.specs.Ending.{exchange_fault, fault_status, lost_status, outcome_status, seen_fault, seen_status}

pub exchange_law : (request : Request) (outcome : Outcome) → outcome_status outcome ≡ fault_status (exchange_fault request outcome)
exchange_law request Outcome.Memory = refl
exchange_law request outcome = refl

-- the status of an action's end, whether it is a good one
pub worked : (t : Bool) (request : Request) (outcome : Outcome) → (if t then 0 else outcome_status outcome) ≡ option_map_or fault_status (if t then None else Some (exchange_fault request outcome)) 0
worked true request outcome = refl
worked false request outcome = exchange_law request outcome

pub seen_law : (fault : SeenFault) → seen_status fault ≡ option_map_or fault_status (seen_fault (SeenEnd.Bad fault)) 0
seen_law SeenFault.Memory = refl
seen_law fault = refl

lost_positive : (cause : WireEnd) → 1 ≤ lost_status cause
lost_positive WireEnd.TooLarge = omega arith
lost_positive cause = omega arith

outcome_positive : (outcome : Outcome) → 1 ≤ outcome_status outcome
outcome_positive (Outcome.Answered reply) = omega arith
outcome_positive (Outcome.Lost cause) = lost_positive cause
outcome_positive Outcome.NotSent = omega arith
outcome_positive Outcome.Memory = omega arith

seen_positive : (fault : SeenFault) → 1 ≤ seen_status fault
seen_positive (SeenFault.Lost request cause) = lost_positive cause
seen_positive fault = omega arith

positive : (fault : RunFault) → 1 ≤ fault_status fault
positive (RunFault.Seen fault) = seen_positive fault
positive (RunFault.Request request outcome) = outcome_positive outcome
positive fault = omega arith

-- the status 0 is that of no fault
pub none_is : (o : Option RunFault) (n : ℕ) → n ≡ option_map_or fault_status o 0 → n ≡ 0 → None ≡ o
none_is None n is e = refl
none_is (Some fault) n is e = absurd (let p = positive fault in omega (arith, p, is, e))

-- another status is that of the fault, and so of the first one, where the fault is that
pub first_is : (o first : Option RunFault) (n : ℕ) → n ≡ option_map_or fault_status o 0 → 1 ≤ n → ((fault : RunFault) → Some fault ≡ o → Some fault ≡ first)
    → n ≡ option_map_or fault_status first 0
first_is None first n is more here = absurd (omega (arith, is, more))
first_is (Some fault) first n is more here = is ∙ ap (λ (f : Option RunFault). option_map_or fault_status f 0) (here fault refl)
