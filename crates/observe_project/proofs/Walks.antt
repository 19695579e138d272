-- The steps of an observation, one after another.
use Rattle.std.proofs.Common.{◌≡◌, ℕ, ◌≤◌, true, cond, List, [], ◌∷◌, ◌++◌, Option, Some, refl, sym, ap, ◌∙◌, subst, inl, inr, arith, append_assoc}
use Rattle.std.proofs.lemmas.List.{append-nil}
use Rattle.std.proofs.lemmas.Result.{err_from_is_err_and}
use Rattle.std.specs.Prelude.{IfErr, IfOk, IsErr, IsErrAnd, Result, Ok, Err}
use Rattle.tree_base.specs.declared.Memory.{Memory}
use Rattle.engine_types.specs.declared.Exchange.{Exchange}
use Rattle.engine_types.specs.declared.Outcome.{Outcome}
use Rattle.engine_types.specs.declared.Request.{Request}
use Rattle.engine_types.specs.declared.SeenEnd.{SeenEnd}
use Rattle.engine_types.specs.declared.SeenFault.{SeenFault}
use Rattle.engine_types.specs.declared.Slot.{Slot}
use Rattle.run_model.specs.Observation.{Ends, Onward, Strays, asking, is_asked, is_request, wanting}
use Rattle.run_model.specs.EngineRules.{Tells}
use Rattle.outside_api.specs.Accounts.{IsCausedIn}
use Rattle.outside_api.specs.Hands.{Heard}
use Rattle.observe_project.specs.Exchanges.{HasCauseOfFault}
use Rattle.observe_project.specs.Reading.{OrMemory, or_memory}
use Rattle.outside_api.specs.Standings.{Standing, account_of}
use Rattle.observe_project.specs.Steps.{Asked, Leads, MayEnd, Reads, Steps}
use Rattle.observe_project.proofs.Ways.{fault-wider, makes-append, makes-counted, makes-none, makes-one}

-- a want of memory is the fault that it is said to be
pub no_memory : {X : Type 0} (answer : Result X Memory) (fault : SeenFault) → Err fault ≡ or_memory answer → fault ≡ SeenFault.Memory
no_memory (Ok x) fault e = absurd (cc e)
no_memory (Err memory) fault e = cc e

module _ {X : Type 0} (onward : X → List Exchange → Onward) where
  pub leads-along : (f g : List Exchange → Onward) (result : Result X SeenFault) → ((rest : List Exchange) → f rest ≡ g rest) → Leads g onward result → Leads f onward result
  leads-along f g (Ok x) e h = λ rest. e rest ∙ h rest
  leads-along f g (Err fault) e h = let P : Onward → Type 0 = λ here. MayEnd here fault in subst P (sym (e [])) h

  cause-wider : (heard : Option (List Heard)) (a b c : ℕ) (result : Result X SeenFault) → a ≤ b → b ≤ c
      → IfErr result (HasCauseOfFault heard b c) → IfErr result (HasCauseOfFault heard a c)
  cause-wider heard a b c (Ok x) m n t = tt
  cause-wider heard a b c (Err fault) m n t = fault-wider heard a b c c fault m n (omega arith) t

  -- what needs no exchange
  pub step-none : (from : List Exchange → Onward) (result : Result X SeenFault) (kept : List Exchange) (s : Standing) → Leads from onward result
      → IfErr result (HasCauseOfFault s.heard s.faults s.faults) → Steps from onward result kept kept s s
  step-none from result kept s h t = record { made = []; kept = sym (append-nil kept); makes = makes-none s; leads = h; cause = t }

  -- want of memory before any exchange
  pub step-short : (from : List Exchange → Onward) (fault : SeenFault) (kept : List Exchange) (s : Standing) → fault ≡ SeenFault.Memory → is_asked (from []) ≡ true
      → Steps from onward (Err fault) kept kept s s
  step-short from fault kept s e asked =
      step-none from (Err fault) kept s (inr (e, asked)) (let P : SeenFault → Type 0 = λ f. HasCauseOfFault s.heard s.faults s.faults f in subst P (sym e) tt)

  -- want of memory where a request was to be sent
  pub step-unsent : (from : List Exchange → Onward) (request : Request) (fault : SeenFault) (kept after : List Exchange) (old new : Standing) → after ≡ kept
      → Asked request (Err fault) old new → is_asked (from []) ≡ true → Steps from onward (Err fault) kept after old new
  step-unsent from request fault kept after old new e none asked =
      let P : List Exchange → Type 0 = λ k. Steps from onward (Err fault) kept k old new in
      let Q : Standing → Type 0 = λ s. Steps from onward (Err fault) kept kept old s in
      subst P (sym e) (subst Q (sym none.1) (step-short from fault kept old none.0 asked))

  -- an exchange that was made and kept, and what was read from it
  pub step-asked : (request sent : Request) (next : Outcome → List Exchange → Onward) (exchange : Exchange) (result : Result X SeenFault) (kept before after : List Exchange)
      (old new : Standing) → is_request request sent ≡ true → before ≡ kept → after ≡ before ++ exchange ∷ [] → Asked sent (Ok exchange) old new
      → Reads (next exchange.outcome) onward exchange.request exchange.outcome result → Steps (asking request next) onward result kept after old new
  step-asked request sent next exchange result kept before after old new e same put asked reads = record {
    made = exchange ∷ [];
    kept = put ∙ ap (λ (l : List Exchange). l ++ exchange ∷ []) same;
    makes = asked.1;
    leads = leads-along (λ rest. asking request next (exchange ∷ rest)) (next exchange.outcome) result on reads.leads;
    cause = reads.cause new.heard old.faults new.faults asked.2;
  }
    where
      is : is_request request exchange.request ≡ true
      is = ap (is_request request) asked.0 ∙ e

      on : (rest : List Exchange) → asking request next (exchange ∷ rest) ≡ next exchange.outcome rest
      on rest = ap (λ b. cond b (next exchange.outcome rest) Strays) is

  -- a step that came to a value, and what follows it
  pub step-then : {Y : Type 0} (from : List Exchange → Onward) (mid : Y → List Exchange → Onward) (y : Y) (result : Result X SeenFault) (k l m : List Exchange)
      (a b c : Standing) → Steps from mid (Ok y) k l a b → Steps (mid y) onward result l m b c → Steps from onward result k m a c
  step-then from mid y result k l m a b c s t = record {
    made = s.made ++ t.made;
    kept = t.kept ∙ ap (λ (p : List Exchange). p ++ t.made) s.kept ∙ append_assoc k s.made t.made;
    makes = makes-append s.made t.made a b c s.makes t.makes;
    leads = leads-along (λ rest. from ((s.made ++ t.made) ++ rest)) (λ rest. mid y (t.made ++ rest)) result
        (λ rest. ap from (append_assoc s.made t.made rest) ∙ s.leads (t.made ++ rest)) t.leads;
    cause = cause-wider c.heard a.faults b.faults c.faults result (makes-counted s.made a b s.makes) (makes-counted t.made b c t.makes) t.cause;
  }

  -- a step that came to a value, after which no exchange follows
  pub step-and : {Y : Type 0} (from : List Exchange → Onward) (mid : Y → List Exchange → Onward) (y : Y) (result : Result X SeenFault) (k l : List Exchange)
      (a b : Standing) → Steps from mid (Ok y) k l a b → Leads (mid y) onward result → IfErr result (HasCauseOfFault b.heard b.faults b.faults)
      → Steps from onward result k l a b
  step-and from mid y result k l a b s h t = step-then from mid y result k l l a b b s (step-none (mid y) result l b h t)

  -- a step that began where another does
  pub step-along : (f g : List Exchange → Onward) (result : Result X SeenFault) (k l : List Exchange) (a b : Standing) → ((rest : List Exchange) → f rest ≡ g rest)
      → Steps g onward result k l a b → Steps f onward result k l a b
  step-along f g result k l a b e s = record {
    made = s.made;
    kept = s.kept;
    makes = s.makes;
    leads = leads-along (λ rest. f (s.made ++ rest)) (λ rest. g (s.made ++ rest)) result (λ rest. e (s.made ++ rest)) s.leads;
    cause = s.cause;
  }

  -- a step that came to a fault
  pub step-failed : {Y : Type 0} (from : List Exchange → Onward) (mid : Y → List Exchange → Onward) (fault : SeenFault) (k l : List Exchange) (a b : Standing)
      → Steps from mid (Err fault) k l a b → Steps from onward (Err fault) k l a b
  step-failed from mid fault k l a b s = record { made = s.made; kept = s.kept; makes = s.makes; leads = s.leads; cause = s.cause }

-- what a `?` hands on
pub exits : {X : Type 0} (r : Result X SeenFault) (fault : SeenFault) → IsErr r × IsErrAnd r (λ f. f ≡ fault) → r ≡ Err fault
exits r fault h = let p = err_from_is_err_and r h.1 in p.1 ∙ ap Err p.2

-- a copy that was made is the value
pub copied : {X : Type 0} (answer : Result X Memory) (value x : X) → IfOk answer (λ c. c ≡ value) → Ok x ≡ or_memory answer → x ≡ value
copied (Ok y) value x h e = let same : x ≡ y = cc e in same ∙ h
copied (Err memory) value x h e = absurd (cc e)

-- a service that is to build an image ends the observation
pub want-built : (builder : Option Slot) (slot : Slot) (image : List ℕ) (onward : List ℕ → List Exchange → Onward) (fault : SeenFault) (kept : List Exchange) (s : Standing)
    → Some slot ≡ builder → OrMemory (SeenFault.NeedsBuild slot.service) fault → Steps (wanting builder image onward) onward (Err fault) kept kept s s
want-built builder slot image onward fault kept s e h =
    let P : Option Slot → Type 0 = λ b. Steps (wanting b image onward) onward (Err fault) kept kept s s in subst P e (at h)
  where
    at : OrMemory (SeenFault.NeedsBuild slot.service) fault → Steps (wanting (Some slot) image onward) onward (Err fault) kept kept s s
    at (inl f) = step-none onward (wanting (Some slot) image onward) (Err fault) kept s (inl (ap (λ x. Ends (SeenEnd.Bad x)) (sym f)))
        (let Q : SeenFault → Type 0 = λ x. HasCauseOfFault s.heard s.faults s.faults x in subst Q (sym f) tt)
    at (inr f) = step-short onward (wanting (Some slot) image onward) fault kept s f refl

-- a request of which a copy was kept was sent
pub asked-one : (request sent : Request) (outcome : Outcome) (a b : Standing) → sent ≡ request → Tells a.engine request outcome b.engine
    → IsCausedIn (record { request = request; outcome = outcome }) (account_of a) (account_of b) → b.clock ≡ a.clock
    → Asked request (Ok (record { request = sent; outcome = outcome })) a b
asked-one request sent outcome a b is told caused clock =
    let P : Request → Type 0 = λ r. Asked request (Ok (record { request = r; outcome = outcome })) a b in
    subst P (sym is) (refl, makes-one request outcome a b told caused clock, caused.cause)
