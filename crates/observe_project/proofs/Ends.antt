-- How an observation ended, by what its steps came to.
use Rattle.std.proofs.Common.{◌≡◌, ℕ, List, ◌++◌, [], Option, sym, ap, ◌∙◌, subst, inl, inr}
use Rattle.std.proofs.lemmas.List.{append-nil}
use Rattle.std.specs.Prelude.{IfErr, Result, Ok, Err}
use Rattle.engine_types.specs.declared.Declared.{Declared}
use Rattle.engine_types.specs.declared.Exchange.{Exchange}
use Rattle.engine_types.specs.declared.Purpose.{Purpose}
use Rattle.engine_types.specs.declared.Seen.{Seen}
use Rattle.engine_types.specs.declared.SeenEnd.{SeenEnd}
use Rattle.engine_types.specs.declared.SeenFault.{SeenFault}
use Rattle.run_model.specs.Observation.{IsObservation, ending, is_asked, observed}
use Rattle.outside_api.specs.Hands.{Heard}
use Rattle.observe_project.specs.Exchanges.{HasCauseOfEnd, HasCauseOfFault}
use Rattle.observe_project.specs.Reading.{end_of}
use Rattle.observe_project.specs.Steps.{Leads}

pub cause_of_end : (heard : Option (List Heard)) (old new : ℕ) (answer : Result Seen SeenFault) → IfErr answer (HasCauseOfFault heard old new) → HasCauseOfEnd heard old new (end_of answer)
cause_of_end heard old new (Ok seen) h = tt
cause_of_end heard old new (Err fault) h = h

module _ (declared : Declared) (purpose : Purpose) where
  observation : (made : List Exchange) (answer : Result Seen SeenFault) → Leads (λ rest. observed declared purpose (made ++ rest)) (λ seen. ending (SeenEnd.Good seen)) answer
      → IsObservation declared purpose (record { exchanges = made; end = end_of answer })
  observation made (Ok seen) h = inl (ap (observed declared purpose) (sym (append-nil made)) ∙ h [])
  observation made (Err fault) (inl e) = inl (ap (observed declared purpose) (sym (append-nil made)) ∙ e)
  observation made (Err fault) (inr h) = inr (ap SeenEnd.Bad h.0, ap (λ l. is_asked (observed declared purpose l)) (sym (append-nil made)) ∙ h.1)

  pub observation_of : (made : List Exchange) (answer : Result Seen SeenFault) → Leads (λ rest. observed declared purpose (made ++ rest)) (λ seen. ending (SeenEnd.Good seen)) answer
      → (exchanges : List Exchange) (end : SeenEnd) → exchanges ≡ made → end ≡ end_of answer → IsObservation declared purpose (record { exchanges = exchanges; end = end })
  observation_of made answer h exchanges end e f =
      let P : List Exchange → Type 0 = λ l. IsObservation declared purpose (record { exchanges = l; end = end }) in
      let Q : SeenEnd → Type 0 = λ x. IsObservation declared purpose (record { exchanges = made; end = x }) in
      subst P (sym e) (subst Q (sym f) (observation made answer h))
