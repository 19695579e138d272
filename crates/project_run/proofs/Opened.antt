-- How a run opens, by its observation.
use Rattle.std.proofs.Common.{◌≡◌, ℕ, Bool, true, false, List, Option, Some, refl, sym, ap, ◌∙◌, subst, inl, inr}
use Rattle.std.specs.Prelude.{if◌then◌else◌}
use Rattle.engine_types.specs.declared.Aim.{Aim}
use Rattle.engine_types.specs.declared.Declared.{Declared}
use Rattle.engine_types.specs.declared.Exchange.{Exchange}
use Rattle.engine_types.specs.declared.Observed.{Observed}
use Rattle.engine_types.specs.declared.SeenEnd.{SeenEnd}
use Rattle.engine_types.specs.declared.SeenFault.{SeenFault}
use Rattle.ledger_run.specs.Tellings.{Telling, account_in}
use Rattle.observe_project.specs.Exchanges.{HasCauseOfEnd}
use Rattle.outside_api.specs.Accounts.{AreCaused}
use Rattle.outside_api.specs.Hands.{Heard}
use Rattle.project_run.specs.Opening.{Follows, IsWholeEnd, Opens, observation_of}
use Rattle.project_run.specs.declared.opening.Opening.{Opening}
use Rattle.run_model.specs.EngineRules.{ToldBy}
use Rattle.run_model.specs.Legal.{IsObserved, seen_end, whole_end}
use Rattle.run_model.specs.Logs.{GrowsBy}
use Rattle.run_model.specs.Observation.{IsObservation}
use Rattle.run_model.specs.Plans.{Basis, action_count, is_too_long}

-- an observation with its end, or the fault that its plan gives, is one of a run
observed_whole : (declared : Declared) (aim : Aim) (exchanges : List Exchange) (before after : SeenEnd) → IsObservation declared aim.purpose (record { exchanges = exchanges; end = before })
    → IsWholeEnd declared aim before after → IsObserved declared aim (record { exchanges = exchanges; end = after })
observed_whole declared aim exchanges before after (inl e) (inl w) =
    let whole : seen_end declared aim exchanges ≡ Some (whole_end declared aim before) = rw e refl in inl (whole ∙ ap Some (sym w))
observed_whole declared aim exchanges before after (inl e) (inr w) = inr (w, rw e refl)
observed_whole declared aim exchanges before after (inr m) (inl w) = inr (w ∙ ap (whole_end declared aim) m.0, m.1)
observed_whole declared aim exchanges before after (inr m) (inr w) = inr (w, m.1)

whole_caused : (declared : Declared) (aim : Aim) (heard : Option (List Heard)) (old new : ℕ) (end : SeenEnd) → HasCauseOfEnd heard old new end
    → HasCauseOfEnd heard old new (whole_end declared aim end)
whole_caused declared aim heard old new (SeenEnd.Bad fault) c = c
whole_caused declared aim heard old new (SeenEnd.Good seen) c = at (is_too_long basis)
  where
    basis : Basis
    basis = record { declared = declared; seen = seen; aim = aim }

    at : (t : Bool) → HasCauseOfEnd heard old new (if t then SeenEnd.Bad (SeenFault.TooManyActions (action_count basis)) else SeenEnd.Good seen)
    at true = tt
    at false = tt

caused : (declared : Declared) (aim : Aim) (heard : Option (List Heard)) (old new : ℕ) (before after : SeenEnd) → HasCauseOfEnd heard old new before → IsWholeEnd declared aim before after
    → HasCauseOfEnd heard old new after
caused declared aim heard old new before after c (inl w) = subst (HasCauseOfEnd heard old new) (sym w) (whole_caused declared aim heard old new before c)
caused declared aim heard old new before after c (inr w) = subst (HasCauseOfEnd heard old new) (sym w) tt

pub opened : (declared : Declared) (aim : Aim) (look : Observed) (opening : Opening) (before now : Telling)
    → IsObservation declared aim.purpose look → (observation_of opening).exchanges ≡ look.exchanges → IsWholeEnd declared aim look.end (observation_of opening).end → Follows declared aim opening
    → GrowsBy look.exchanges before.log now.log → ToldBy look.exchanges before.engine now.engine → AreCaused look.exchanges (account_in before) (account_in now)
    → HasCauseOfEnd now.heard before.faults now.faults look.end → now.clock ≡ before.clock
    → Opens declared aim opening before now
opened declared aim look opening before now is same whole follows log told causes cause timed = record {
  observed = subst (λ (exchanges : List Exchange). IsObserved declared aim (record { exchanges = exchanges; end = (observation_of opening).end })) (sym same)
      (observed_whole declared aim look.exchanges look.end (observation_of opening).end is whole);
  follows = follows;
  log = subst (λ (exchanges : List Exchange). GrowsBy exchanges before.log now.log) (sym same) log;
  told = subst (λ (exchanges : List Exchange). ToldBy exchanges before.engine now.engine) (sym same) told;
  caused = subst (λ (exchanges : List Exchange). AreCaused exchanges (account_in before) (account_in now)) (sym same) causes;
  cause = caused declared aim now.heard before.faults now.faults look.end (observation_of opening).end cause whole;
  timed = timed;
}

-- an observation that ended badly opens a run that has ended
pub opened_badly : (declared : Declared) (aim : Aim) (look : Observed) (fault : SeenFault) (opening : Opening) (before now : Telling)
    → IsObservation declared aim.purpose look → look.end ≡ SeenEnd.Bad fault → opening ≡ Opening.Ended (record { exchanges = look.exchanges; end = SeenEnd.Bad fault })
    → GrowsBy look.exchanges before.log now.log → ToldBy look.exchanges before.engine now.engine → AreCaused look.exchanges (account_in before) (account_in now)
    → HasCauseOfEnd now.heard before.faults now.faults look.end → now.clock ≡ before.clock
    → Opens declared aim opening before now
opened_badly declared aim look fault opening before now is bad ended log told causes cause timed =
    subst (λ (o : Opening). Opens declared aim o before now) (sym ended)
    (opened declared aim look (Opening.Ended (record { exchanges = look.exchanges; end = SeenEnd.Bad fault })) before now is refl (inl (rw bad refl)) (fault, refl) log told causes cause timed)
