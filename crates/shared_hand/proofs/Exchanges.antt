-- What an exchange on an Engine that hands share comes to: its settled Engine serves the request, and the reply is one of that request's.
use Rattle.std.proofs.Common.{◌≡◌, ℕ, None, Some, inl, inr, subst}
use Rattle.engine_types.specs.declared.Engine.{Engine}
use Rattle.engine_types.specs.declared.Outcome.{Outcome}
use Rattle.engine_types.specs.declared.Request.{Request}
use Rattle.memory_engine.specs.declared.catalogue.Catalogue.{Catalogue}
use Rattle.memory_engine.specs.Keeping.{IsKept}
use Rattle.run_model.specs.EngineRules.{Tells}
use Rattle.outside_api.specs.Hands.{HasCause}
use Rattle.engine_hand.specs.Fates.{IsServed}
use Rattle.engine_hand.proofs.Rows.{answers_fit}
use Rattle.shared_hand.specs.declared.shared_engine.SharedEngine.{SharedEngine}
use Rattle.shared_hand.specs.Exchanged.{IsExchanged, answering}
use Rattle.shared_hand.specs.Outcomes.{IsOfShared}
use Rattle.shared_hand.specs.Settling.{looks_after}
use Rattle.shared_hand.proofs.Settles.{settled_drifts}

-- what the settled Engine serves is an exchange
pub serves : (old new : SharedEngine) (request : Request) (outcome : Outcome) (catalogue : Catalogue) (engine : Engine) → IsKept old.engine.engine
    → engine ≡ answering old request → catalogue ≡ old.engine.catalogue
    → IsServed catalogue engine request outcome new.engine.engine → Tells (Some engine) request outcome (Some new.engine.engine)
    → new.looked ≡ looks_after old.looked old.engine.script old.engine.engine request → IsExchanged old request outcome new
serves old new request outcome catalogue engine kept is same served told looked = inr (record {
  drifts = settled_drifts old.looked old.engine.script old.engine.engine request kept;
  served = subst (λ (e : Engine). IsServed old.engine.catalogue e request outcome new.engine.engine) is
      (subst (λ (k : Catalogue). IsServed k engine request outcome new.engine.engine) same served);
  told = subst (λ (e : Engine). Tells (Some e) request outcome (Some new.engine.engine)) is told;
  looked = looked;
})

-- an exchange is answered by what an Engine in memory gives, or wanted memory
pub of_shared : (before after : SharedEngine) (request : Request) (outcome : Outcome) → IsExchanged before request outcome after → IsOfShared request outcome
of_shared before after request (Outcome.Answered reply) (inl stays) = let clash : Outcome.Answered reply ≡ Outcome.Memory = stays.wanted in absurd (cc clash)
of_shared before after request (Outcome.Answered reply) (inr made) = record {
  catalogue = before.engine.catalogue;
  old = answering before request;
  new = after.engine.engine;
  serves = made.served;
  answers = made.told;
}
of_shared before after request (Outcome.Lost cause) (inl stays) = let clash : Outcome.Lost cause ≡ Outcome.Memory = stays.wanted in absurd (cc clash)
of_shared before after request (Outcome.Lost cause) (inr made) = made.served
of_shared before after request Outcome.NotSent (inl stays) = let clash : Outcome.NotSent ≡ Outcome.Memory = stays.wanted in absurd (cc clash)
of_shared before after request Outcome.NotSent (inr made) = made.served
of_shared before after request Outcome.Memory exchanged = tt

-- such an outcome has its cause in itself
pub caused : (faults : ℕ) (request : Request) (outcome : Outcome) → IsOfShared request outcome → HasCause request None faults faults outcome
caused faults request (Outcome.Answered reply) given = (answers_fit given.old request reply given.new given.answers, tt)
caused faults request (Outcome.Lost cause) given = absurd given
caused faults request Outcome.NotSent given = absurd given
caused faults request Outcome.Memory given = tt
