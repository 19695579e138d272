-- What a script answers has its cause in its exchange.
use Rattle.std.proofs.Common.{◌≡◌, ◌⊎◌, ℕ, ◌<◌, ◌≤◌, Bool, true, false, None, Option, Some, List, refl, sym, subst, inl, inr, arith}
use Rattle.std.specs.Prelude.{if◌then◌else◌, slice_get}
use Rattle.std.proofs.lemmas.Bool.{cases_lt}
use Rattle.engine_types.specs.declared.Outcome.{Outcome}
use Rattle.engine_types.specs.declared.Reply.{Reply}
use Rattle.engine_types.specs.declared.Request.{Request}
use Rattle.engine_types.specs.declared.WireEnd.{WireEnd}
use Rattle.outside_api.specs.Hands.{HasCause}
use Rattle.outside_files.specs.Counts.{Rose, one_more}
use Rattle.engine_hand.proofs.Rows.{fits}
use Rattle.engine_hand.specs.ScriptHands.{faults_with, fitted, is_of_row, scripted, scripted_by}

rose : (old : ℕ) → Rose old (one_more old)
rose old = by (cases_lt old 18446744073709551615)
  where
    by : (old < 18446744073709551615) ⊎ (18446744073709551615 ≤ old) → Rose old (one_more old)
    by (inl less) = inl (omega (arith, less))
    by (inr full) = inr full

abbrev answered : Reply → Bool → Outcome
answered reply b = if b then Outcome.Answered reply else Outcome.Lost WireEnd.BadBody

fitted_caused : (request : Request) (outcome : Outcome) (old : ℕ)
    → HasCause request None old (faults_with (fitted request outcome) old) (fitted request outcome)
fitted_caused request (Outcome.Answered reply) old = by (is_of_row request reply) refl
  where
    by : (b : Bool) → is_of_row request reply ≡ b → HasCause request None old (faults_with (answered reply b) old) (answered reply b)
    by true e = (fits request reply e, tt)
    by false e = inl (rose old)
fitted_caused request (Outcome.Lost cause) old = inl (rose old)
fitted_caused request Outcome.NotSent old = rose old
fitted_caused request Outcome.Memory old = tt

scripted_caused : (request : Request) (script : List Outcome) (made old : ℕ)
    → HasCause request None old (faults_with (scripted script made request) old) (scripted script made request)
scripted_caused request script made old = by (slice_get script made)
  where
    by : (next : Option Outcome) → HasCause request None old (faults_with (scripted_by request next) old) (scripted_by request next)
    by None = rose old
    by (Some outcome) = fitted_caused request outcome old

pub outcome_caused : (request : Request) (script : List Outcome) (made old new : ℕ) (outcome : Outcome) → outcome ≡ scripted script made request
    → new ≡ faults_with outcome old → HasCause request None old new outcome
outcome_caused request script made old new outcome is counted =
    subst (λ (n : ℕ). HasCause request None old n outcome) (sym counted)
    (subst (λ (o : Outcome). HasCause request None old (faults_with o old) o) (sym is) (scripted_caused request script made old))
