-- Exchanges of a hand, one behind the other.
use Rattle.std.proofs.Common.{◌≡◌, ◌∙◌, ◌++◌, List, [], ◌∷◌, Option, Ok, refl, sym, ap, subst, inl, inr, append_assoc}
use Rattle.std.proofs.lemmas.List.{append-nil}
use Rattle.engine_types.specs.declared.Engine.{Engine}
use Rattle.engine_types.specs.declared.Exchange.{Exchange}
use Rattle.engine_types.specs.declared.Outcome.{Outcome}
use Rattle.engine_types.specs.declared.Request.{Request}
use Rattle.outside_api.proofs.Accounts.{caused-append, caused-one}
use Rattle.outside_api.specs.Accounts.{IsCausedIn}
use Rattle.outside_api.specs.Hands.{Logs}
use Rattle.outside_api.specs.Standings.{Makes, Standing, account_of}
use Rattle.run_model.specs.EngineRules.{Tells, ToldBy}
use Rattle.run_model.specs.Logs.{GrowsBy, IsLogOf}
use Rattle.wait_run.specs.Asking.{Asked}

log_append : (xs ys l m : List Exchange) → IsLogOf xs l → IsLogOf ys m → IsLogOf (xs ++ ys) (l ++ m)
log_append [] ys l m e h = let P : List Exchange → Type 0 = λ k. IsLogOf ys (k ++ m) in subst P (sym e) h
log_append (x ∷ xs) ys [] [] b h = (b.0, log_append xs ys [] [] b.1 h)
log_append (x ∷ xs) ys [] (y ∷ m) b h = inr (b.0, log_append xs ys [] (y ∷ m) b.1 h)
log_append (x ∷ xs) ys (y ∷ l) m (inl b) h = inl (b.0, log_append xs ys l m b.1 h)
log_append (x ∷ xs) ys (y ∷ l) m (inr b) h = inr (b.0, log_append xs ys (y ∷ l) m b.1 h)

grows_append : (xs ys a b c : List Exchange) → GrowsBy xs a b → GrowsBy ys b c → GrowsBy (xs ++ ys) a c
grows_append xs ys a b c g h = record {
  more = g.more ++ h.more;
  grown = h.grown ∙ ap (λ (l : List Exchange). l ++ h.more) g.grown ∙ append_assoc a g.more h.more;
  are = log_append xs ys g.more h.more g.are h.are;
}

grown_by : (old new : List Exchange) (x : Exchange) → new ≡ old ++ x ∷ [] → GrowsBy (x ∷ []) old new
grown_by old new x e = record { more = x ∷ []; grown = e; are = inl (refl, refl) }

grows_one : (old : List Exchange) (request : Request) (outcome : Outcome) (new : List Exchange) → Logs old request outcome new
    → GrowsBy (record { request = request; outcome = outcome } ∷ []) old new
grows_one old request Outcome.Memory new (inl e) = record { more = []; grown = e ∙ sym (append-nil old); are = (refl, refl) }
grows_one old request Outcome.Memory new (inr e) = grown_by old new _ e
grows_one old request (Outcome.Answered reply) new e = grown_by old new _ e
grows_one old request (Outcome.Lost cause) new e = grown_by old new _ e
grows_one old request Outcome.NotSent new e = grown_by old new _ e

told_append : (xs ys : List Exchange) (a b c : Option Engine) → ToldBy xs a b → ToldBy ys b c → ToldBy (xs ++ ys) a c
told_append [] ys a b c e h = let P : Option Engine → Type 0 = λ k. ToldBy ys k c in subst P e h
told_append (x ∷ xs) ys a b c t h = (t.0, t.1, told_append xs ys t.0 b c t.2 h)

-- nothing was made
pub makes_none : (s : Standing) → Makes [] s s
makes_none s = record {
  log = record { more = []; grown = sym (append-nil s.log); are = refl };
  told = refl;
  caused = refl;
  clock = refl;
}

pub makes_append : (xs ys : List Exchange) (a b c : Standing) → Makes xs a b → Makes ys b c → Makes (xs ++ ys) a c
makes_append xs ys a b c m n = record {
  log = grows_append xs ys a.log b.log c.log m.log n.log;
  told = told_append xs ys a.engine b.engine c.engine m.told n.told;
  caused = caused-append xs ys (account_of a) (account_of b) (account_of c) m.caused n.caused;
  clock = n.clock ∙ m.clock;
}

-- one exchange, as the hand's contract says it
pub makes_one : (request : Request) (outcome : Outcome) (a b : Standing) → Tells a.engine request outcome b.engine
    → IsCausedIn (record { request = request; outcome = outcome }) (account_of a) (account_of b) → b.clock ≡ a.clock
    → Makes (record { request = request; outcome = outcome } ∷ []) a b
makes_one request outcome a b told caused clock = record {
  log = grows_one a.log request outcome b.log caused.logged;
  told = (b.engine, told, refl);
  caused = caused-one (record { request = request; outcome = outcome }) (account_of a) (account_of b) caused;
  clock = clock;
}

-- a request of which a copy was kept was sent
pub asked_one : (request sent : Request) (outcome : Outcome) (a b : Standing) → sent ≡ request → Tells a.engine request outcome b.engine
    → IsCausedIn (record { request = request; outcome = outcome }) (account_of a) (account_of b) → b.clock ≡ a.clock
    → Asked request (Ok (record { request = sent; outcome = outcome })) a b
asked_one request sent outcome a b is told caused clock =
    let P : Request → Type 0 = λ r. Asked request (Ok (record { request = r; outcome = outcome })) a b in
    subst P (sym is) (refl, makes_one request outcome a b told caused clock)
