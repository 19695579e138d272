-- The request of an action's latest claim is that of the entries before it.
use Rattle.std.proofs.Common.{◌≡◌, ℕ, Bool, true, false, List, [], ◌∷◌, Option, Some, None, refl, sym, ap, subst, ◌∙◌}
use Rattle.std.specs.Prelude.{IfOk, Result, if◌then◌else◌, ◌==◌}
use Rattle.std.specs.Option.{option_and_then}
use Rattle.engine_types.specs.declared.Entry.{Entry}
use Rattle.engine_types.specs.declared.Request.{Request}
use Rattle.run_model.specs.Journals.{Setup}
use Rattle.run_model.specs.Requests.{OfAction, action_request, asked}
use Rattle.run_report.specs.Claims.{before_claim, is_claim_of}

there : {X Y : Type 0} (f : X → Option Y) (b : Bool) (x : X) (o : Option X) → (if b then f x else option_and_then f o) ≡ option_and_then f (if b then Some x else o)
there f true x o = refl
there f false x o = refl

pub asked_is : (setup : Setup) (past : List Entry) (a : ℕ) → asked setup past (OfAction a) ≡ option_and_then (λ before. action_request setup before a) (before_claim past a)
asked_is setup [] a = refl
asked_is setup (Entry.Claim v b ∷ past) a =
    ap (λ (o : Option Request). if b == a then action_request setup past a else o) (asked_is setup past a)
    ∙ there (λ (before : List Entry). action_request setup before a) (b == a) past (before_claim past a)
asked_is setup (Entry.Ended v outcome ∷ past) a = asked_is setup past a
asked_is setup (Entry.Poll v s ∷ past) a = asked_is setup past a
asked_is setup (Entry.Seen observed ∷ past) a = asked_is setup past a
asked_is setup (Entry.Idle v ∷ past) a = asked_is setup past a
asked_is setup (Entry.Leave v ∷ past) a = asked_is setup past a
asked_is setup (Entry.Stop v ∷ past) a = asked_is setup past a
asked_is setup (Entry.Late v why ∷ past) a = asked_is setup past a
asked_is setup (Entry.Short v ∷ past) a = asked_is setup past a

pub claim_is : (past : List Entry) (entry : Entry) (a : ℕ) → before_claim (entry ∷ past) a ≡ (if is_claim_of a entry then Some past else before_claim past a)
claim_is past (Entry.Claim v b) a = refl
claim_is past (Entry.Ended v outcome) a = refl
claim_is past (Entry.Poll v s) a = refl
claim_is past (Entry.Seen observed) a = refl
claim_is past (Entry.Idle v) a = refl
claim_is past (Entry.Leave v) a = refl
claim_is past (Entry.Stop v) a = refl
claim_is past (Entry.Late v why) a = refl
claim_is past (Entry.Short v) a = refl

-- the request, from the entries before the claim
pub asked_at : {E : Type 0} (setup : Setup) (past before : List Entry) (a : ℕ) (r : Result (Option Request) E) → Some before ≡ before_claim past a
    → IfOk r (λ request. request ≡ action_request setup before a) → IfOk r (λ request. request ≡ asked setup past (OfAction a))
asked_at setup past before a r e h =
    let same : asked setup past (OfAction a) ≡ action_request setup before a =
    asked_is setup past a ∙ ap (option_and_then (λ (b : List Entry). action_request setup b a)) (sym e) in
    subst (λ (o : Option Request). IfOk r (λ request. request ≡ o)) (sym same) h

pub asked_none : (setup : Setup) (past : List Entry) (a : ℕ) → None ≡ before_claim past a → None ≡ asked setup past (OfAction a)
asked_none setup past a e = sym (asked_is setup past a ∙ ap (option_and_then (λ (b : List Entry). action_request setup b a)) (sym e))
