-- A log of which no exchange was lost stays so.
use Rattle.std.proofs.Common.{◌≡◌, inl, inr, ℕ, Bool, true, false, List, [], ◌∷◌, ◌++◌, refl, subst, sym}
use Rattle.std.specs.Prelude.{◌&&◌}
use Rattle.engine_hand.specs.declared.fate.Fate.{Fate}
use Rattle.engine_hand.specs.Fates.{ComesTo, fate_of, is_asked}
use Rattle.engine_types.specs.declared.Engine.{Engine}
use Rattle.engine_types.specs.declared.Exchange.{Exchange}
use Rattle.engine_types.specs.declared.Outcome.{Outcome}
use Rattle.engine_types.specs.declared.Request.{Request}
use Rattle.memory_engine.specs.declared.catalogue.Catalogue.{Catalogue}
use Rattle.memory_engine.specs.declared.faults.FaultPlan.{FaultPlan}
use Rattle.outside_api.specs.Clock.{Clock, after_asked}
use Rattle.outside_api.specs.Hands.{Logs, logged}
use Rattle.shared_hand.specs.Outcomes.{IsOfShared}
use Rattle.steady_hands.specs.Steady.{IsWithoutFaults, are_steady, is_steady}

both : (a b : Bool) → a ≡ true → b ≡ true → (a && b) ≡ true
both true b e f = f
both false b e f = absurd (cc e)

halves : (a b : Bool) → (a && b) ≡ true → (a ≡ true) × (b ≡ true)
halves true b e = (refl, e)
halves false b e = absurd (cc e)

one_more : (log : List Exchange) (exchange : Exchange) → are_steady log ≡ true → is_steady exchange.outcome ≡ true → are_steady (log ++ exchange ∷ []) ≡ true
one_more [] exchange e f = both (is_steady exchange.outcome) true f refl
one_more (x ∷ log) exchange e f =
    let parts = halves (is_steady x.outcome) (are_steady log) e in
    both (is_steady x.outcome) (are_steady (log ++ exchange ∷ [])) parts.0 (one_more log exchange parts.1 f)

grown : (old new : List Exchange) (request : Request) (outcome : Outcome) → new ≡ logged old request outcome → is_steady outcome ≡ true → are_steady old ≡ true → are_steady new ≡ true
grown old new request outcome is steady so_far =
    subst (λ (l : List Exchange). are_steady l ≡ true) (sym is) (one_more old (record { request = request; outcome = outcome }) so_far steady)

pub stays : (old new : List Exchange) (request : Request) (outcome : Outcome) → Logs old request outcome new → IsOfShared request outcome → are_steady old ≡ true → are_steady new ≡ true
stays old new request (Outcome.Answered reply) is of so_far = grown old new request (Outcome.Answered reply) is refl so_far
stays old new request (Outcome.Lost cause) is of so_far = absurd of
stays old new request Outcome.NotSent is of so_far = absurd of
stays old new request Outcome.Memory (inl same) of so_far = subst (λ (l : List Exchange). are_steady l ≡ true) (sym same) so_far
stays old new request Outcome.Memory (inr is) of so_far = grown old new request Outcome.Memory is refl so_far

-- the same where an exchange that was logged is known to be steady
pub stays_logged : (old new : List Exchange) (request : Request) (outcome : Outcome) → Logs old request outcome new
    → (new ≡ logged old request outcome → is_steady outcome ≡ true) → are_steady old ≡ true → are_steady new ≡ true
stays_logged old new request (Outcome.Answered reply) is steady so_far = grown old new request (Outcome.Answered reply) is (steady is) so_far
stays_logged old new request (Outcome.Lost cause) is steady so_far = grown old new request (Outcome.Lost cause) is (steady is) so_far
stays_logged old new request Outcome.NotSent is steady so_far = grown old new request Outcome.NotSent is (steady is) so_far
stays_logged old new request Outcome.Memory (inl same) steady so_far = subst (λ (l : List Exchange). are_steady l ≡ true) (sym same) so_far
stays_logged old new request Outcome.Memory (inr is) steady so_far = grown old new request Outcome.Memory is (steady is) so_far

-- without faults each exchange is answered, or wants memory
calm_fate : (plan : FaultPlan) → IsWithoutFaults plan → (number : ℕ) → fate_of plan number ≡ Fate.Answered
calm_fate plan calm number = rw calm.lost (rw calm.unsent refl)

served_steady : (catalogue : Catalogue) (old new : Engine) (request : Request) (outcome : Outcome) → ComesTo Fate.Answered catalogue old request outcome new → is_steady outcome ≡ true
served_steady catalogue old new request (Outcome.Answered reply) comes = refl
served_steady catalogue old new request (Outcome.Lost cause) comes = absurd comes
served_steady catalogue old new request Outcome.NotSent comes = absurd comes
served_steady catalogue old new request Outcome.Memory comes = refl

pub calm_steady : (plan : FaultPlan) → IsWithoutFaults plan → (number : ℕ) (catalogue : Catalogue) (old new : Engine) (request : Request) (outcome : Outcome)
    → ComesTo (fate_of plan number) catalogue old request outcome new → is_steady outcome ≡ true
calm_steady plan calm number catalogue old new request outcome comes =
    served_steady catalogue old new request outcome (subst (λ (f : Fate). ComesTo f catalogue old request outcome new) (calm_fate plan calm number) comes)

-- nor is a worker asked to stop
pub calm_unasked : (plan : FaultPlan) → IsWithoutFaults plan → (made : ℕ) → is_asked plan.asked_from made ≡ false
calm_unasked plan calm made = rw calm.asked_from refl

pub still_unasked : (old : Clock) (answer : Bool) → answer ≡ false → old.yeses ≡ 0 → (after_asked old answer).yeses ≡ 0
still_unasked old true never so_far = absurd (cc never)
still_unasked old false never so_far = so_far
