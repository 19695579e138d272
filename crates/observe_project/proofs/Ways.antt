-- What a hand went through, exchange after exchange.
use Rattle.std.proofs.Common.{◌≡◌, ◌⊎◌, ℕ, ◌<◌, ◌≤◌, List, [], ◌∷◌, ◌++◌, Option, refl, sym, ap, ◌∙◌, subst, inl, inr, arith, append_assoc}
use Rattle.std.proofs.lemmas.Bool.{cases_lt}
use Rattle.std.proofs.lemmas.List.{append-nil}
use Rattle.engine_types.specs.declared.Engine.{Engine}
use Rattle.engine_types.specs.declared.Exchange.{Exchange}
use Rattle.engine_types.specs.declared.Outcome.{Outcome}
use Rattle.engine_types.specs.declared.Request.{Request}
use Rattle.engine_types.specs.declared.SeenFault.{SeenFault}
use Rattle.run_model.specs.EngineRules.{Tells, ToldBy}
use Rattle.run_model.specs.Logs.{GrowsBy, IsLogOf}
use Rattle.outside_files.specs.Counts.{Rose}
use Rattle.outside_api.proofs.Accounts.{caused-append, caused-one, stays_told}
use Rattle.outside_api.specs.Accounts.{IsCausedIn}
use Rattle.outside_api.specs.Hands.{Heard, Logs}
use Rattle.observe_project.specs.Exchanges.{HasCauseOfFault}
use Rattle.outside_api.specs.Standings.{Makes, Standing, account_of}

log-append : (xs ys l m : List Exchange) → IsLogOf xs l → IsLogOf ys m → IsLogOf (xs ++ ys) (l ++ m)
log-append [] ys l m e h = let P : List Exchange → Type 0 = λ k. IsLogOf ys (k ++ m) in subst P (sym e) h
log-append (x ∷ xs) ys [] [] b h = (b.0, log-append xs ys [] [] b.1 h)
log-append (x ∷ xs) ys [] (y ∷ m) b h = inr (b.0, log-append xs ys [] (y ∷ m) b.1 h)
log-append (x ∷ xs) ys (y ∷ l) m (inl b) h = inl (b.0, log-append xs ys l m b.1 h)
log-append (x ∷ xs) ys (y ∷ l) m (inr b) h = inr (b.0, log-append xs ys (y ∷ l) m b.1 h)

pub grows-append : (xs ys a b c : List Exchange) → GrowsBy xs a b → GrowsBy ys b c → GrowsBy (xs ++ ys) a c
grows-append xs ys a b c g h = record {
  more = g.more ++ h.more;
  grown = h.grown ∙ ap (λ (l : List Exchange). l ++ h.more) g.grown ∙ append_assoc a g.more h.more;
  are = log-append xs ys g.more h.more g.are h.are;
}

pub grows-none : (a : List Exchange) → GrowsBy [] a a
grows-none a = record { more = []; grown = sym (append-nil a); are = refl }

logged_so : (old new : List Exchange) (x : Exchange) → new ≡ old ++ x ∷ [] → GrowsBy (x ∷ []) old new
logged_so old new x e = record { more = x ∷ []; grown = e; are = inl (refl, refl) }

pub grows-one : (old : List Exchange) (request : Request) (outcome : Outcome) (new : List Exchange) → Logs old request outcome new
    → GrowsBy (record { request = request; outcome = outcome } ∷ []) old new
grows-one old request Outcome.Memory new (inl e) = record { more = []; grown = e ∙ sym (append-nil old); are = (refl, refl) }
grows-one old request Outcome.Memory new (inr e) = logged_so old new _ e
grows-one old request (Outcome.Answered reply) new e = logged_so old new _ e
grows-one old request (Outcome.Lost cause) new e = logged_so old new _ e
grows-one old request Outcome.NotSent new e = logged_so old new _ e

pub told-append : (xs ys : List Exchange) (a b c : Option Engine) → ToldBy xs a b → ToldBy ys b c → ToldBy (xs ++ ys) a c
told-append [] ys a b c e h = let P : Option Engine → Type 0 = λ k. ToldBy ys k c in subst P e h
told-append (x ∷ xs) ys a b c t h = (t.0, t.1, told-append xs ys t.0 b c t.2 h)

rose-wider : (a b c d : ℕ) → a ≤ b → b ≤ c → c ≤ d → Rose b c → Rose a d
rose-wider a b c d k m n (inl r) = inl (omega arith)
rose-wider a b c d k m n (inr r) = at (cases_lt a b)
  where
    at : (a < b) ⊎ (b ≤ a) → Rose a d
    at (inl l) = inl (omega arith)
    at (inr l) = inr (omega arith)

-- a fault's cause is one within a longer time
pub fault-wider : (heard : Option (List Heard)) (a b c d : ℕ) (fault : SeenFault) → a ≤ b → b ≤ c → c ≤ d
    → HasCauseOfFault heard b c fault → HasCauseOfFault heard a d fault
fault-wider heard a b c d (SeenFault.Lost request cause) k m n (inl r) = inl (rose-wider a b c d k m n r)
fault-wider heard a b c d (SeenFault.Lost request cause) k m n (inr h) = inr h
fault-wider heard a b c d (SeenFault.NotSent request) k m n r = rose-wider a b c d k m n r
fault-wider heard a b c d _ k m n t = tt

-- over exchanges the count of faults doesn't fall
pub makes-counted : (made : List Exchange) (a b : Standing) → Makes made a b → a.faults ≤ b.faults
makes-counted made a b m = (stays_told made (account_of a) (account_of b) m.caused).counted

pub makes-none : (s : Standing) → Makes [] s s
makes-none s = record {
  log = grows-none s.log;
  told = refl;
  caused = refl;
  clock = refl;
}

pub makes-append : (xs ys : List Exchange) (a b c : Standing) → Makes xs a b → Makes ys b c → Makes (xs ++ ys) a c
makes-append xs ys a b c m n = record {
  log = grows-append xs ys a.log b.log c.log m.log n.log;
  told = told-append xs ys a.engine b.engine c.engine m.told n.told;
  caused = caused-append xs ys (account_of a) (account_of b) (account_of c) m.caused n.caused;
  clock = n.clock ∙ m.clock;
}

-- one exchange, as the hand's contract says it
pub makes-one : (request : Request) (outcome : Outcome) (a b : Standing) → Tells a.engine request outcome b.engine
    → IsCausedIn (record { request = request; outcome = outcome }) (account_of a) (account_of b) → b.clock ≡ a.clock
    → Makes (record { request = request; outcome = outcome } ∷ []) a b
makes-one request outcome a b told caused clock = record {
  log = grows-one a.log request outcome b.log caused.logged;
  told = (b.engine, told, refl);
  caused = caused-one (record { request = request; outcome = outcome }) (account_of a) (account_of b) caused;
  clock = clock;
}
