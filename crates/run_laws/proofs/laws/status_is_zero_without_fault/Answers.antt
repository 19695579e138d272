use Rattle.std.proofs.Common.{◌≡◌, Option, Some, None, refl, arith}
use Rattle.std.specs.Option.{option_map_or}
use Rattle.engine_types.specs.declared.Outcome.{Outcome}
use Rattle.engine_types.specs.declared.RunFault.{RunFault}
use Rattle.engine_types.specs.declared.SeenFault.{SeenFault}
use Rattle.engine_types.specs.declared.WireEnd.{WireEnd}
use Rattle.run_model.specs.Ending.{fault_status, first_fault, lost_status, outcome_status, seen_status}
use Rattle.run_laws.proofs.laws.status_is_zero_without_fault.Goals as goal

lost_not_zero : (cause : WireEnd) → lost_status cause ≡ 0 → ⊥
lost_not_zero WireEnd.TooLarge e = omega (arith, e)
lost_not_zero WireEnd.Fault e = omega (arith, e)
lost_not_zero WireEnd.Ended e = omega (arith, e)
lost_not_zero (WireEnd.Malformed at) e = omega (arith, e)
lost_not_zero WireEnd.Encoded e = omega (arith, e)
lost_not_zero WireEnd.BadBody e = omega (arith, e)

outcome_not_zero : (outcome : Outcome) → outcome_status outcome ≡ 0 → ⊥
outcome_not_zero (Outcome.Answered reply) e = omega (arith, e)
outcome_not_zero (Outcome.Lost cause) e = lost_not_zero cause e
outcome_not_zero Outcome.NotSent e = omega (arith, e)
outcome_not_zero Outcome.Memory e = omega (arith, e)

seen_not_zero : (fault : SeenFault) → seen_status fault ≡ 0 → ⊥
seen_not_zero (SeenFault.Lost request cause) e = lost_not_zero cause e
seen_not_zero (SeenFault.NotSent request) e = omega (arith, e)
seen_not_zero (SeenFault.TooManyActions count) e = omega (arith, e)
seen_not_zero SeenFault.Memory e = omega (arith, e)
seen_not_zero (SeenFault.RequestFailed request status message) e = omega (arith, e)
seen_not_zero (SeenFault.PullFailed image message) e = omega (arith, e)
seen_not_zero (SeenFault.NetworkTwice name first second) e = omega (arith, e)
seen_not_zero (SeenFault.ForeignNetwork name id) e = omega (arith, e)
seen_not_zero (SeenFault.ExternalMissing kind name) e = omega (arith, e)
seen_not_zero (SeenFault.NeedsBuild service) e = omega (arith, e)

fault_not_zero : (fault : RunFault) → fault_status fault ≡ 0 → ⊥
fault_not_zero (RunFault.Seen fault) e = seen_not_zero fault e
fault_not_zero (RunFault.Request request outcome) e = outcome_not_zero outcome e
fault_not_zero (RunFault.Condition slot condition report) e = omega (arith, e)
fault_not_zero RunFault.Stopped e = omega (arith, e)
fault_not_zero (RunFault.Late why) e = omega (arith, e)
fault_not_zero RunFault.Memory e = omega (arith, e)

-- a fault has a status, and no fault has status 0
without : (fault : Option RunFault) → (option_map_or fault_status fault 0 ≡ 0 → fault ≡ None) × (fault ≡ None → option_map_or fault_status fault 0 ≡ 0)
without None = ((λ e. refl), (λ e. refl))
without (Some fault) = ((λ e. absurd (fault_not_zero fault e)), (λ e. absurd (cc e)))

pub returns : goal.returns
returns c = λ setup past. without (first_fault setup past)
