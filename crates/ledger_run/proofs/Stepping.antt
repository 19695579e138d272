-- What a worker's hand did by longer journals, and what it tells of several steps.
use Rattle.std.proofs.Common.{◌≡◌, ℕ, Bool, true, false, List, [], ◌∷◌, ◌++◌, length, reverse, drop, Option, if◌then◌else◌, refl, sym, ap, ◌∙◌, subst, inl, inr, append_assoc}
use Rattle.std.proofs.lemmas.List.{append-nil, reverse-append}
use Rattle.std.specs.Prelude.{◌==◌}
use Rattle.engine_types.specs.declared.Engine.{Engine}
use Rattle.engine_types.specs.declared.Entry.{Entry}
use Rattle.engine_types.specs.declared.Exchange.{Exchange}
use Rattle.engine_types.specs.declared.Outcome.{Outcome}
use Rattle.engine_types.specs.declared.Request.{Request}
use Rattle.outside_api.specs.Hands.{Logs}
use Rattle.run_model.specs.EngineRules.{Made, Paused, Step, TellsSteps, exchanges_in, unpaused}
use Rattle.run_model.specs.Journals.{Setup}
use Rattle.run_model.specs.Logs.{GrowsBy, IsLogOf, exchanges_of}
use Rattle.run_model.specs.Requests.{request_out}
use Rattle.ledger_run.specs.Steps.{steps_for, steps_of}

pub exchanges-append : (xs ys : List Step) → exchanges_in (xs ++ ys) ≡ exchanges_in xs ++ exchanges_in ys
exchanges-append [] ys = refl
exchanges-append (Made x ∷ xs) ys = ap (λ (es : List Exchange). x ∷ es) (exchanges-append xs ys)
exchanges-append (Paused n ∷ xs) ys = exchanges-append xs ys

exchanges-unpaused : (xs : List Exchange) → exchanges_in (unpaused xs) ≡ xs
exchanges-unpaused [] = refl
exchanges-unpaused (x ∷ xs) = ap (λ (es : List Exchange). x ∷ es) (exchanges-unpaused xs)

with_these : (a b : List Step) (xs ys : List Exchange) → exchanges_in a ≡ xs → exchanges_in b ≡ ys → exchanges_in (a ++ b) ≡ xs ++ ys
with_these a b xs ys e f = exchanges-append a b ∙ ap (λ (es : List Exchange). es ++ exchanges_in b) e ∙ ap (λ (es : List Exchange). xs ++ es) f

with_none : (a : List Step) (xs : List Exchange) → exchanges_in a ≡ xs → exchanges_in (a ++ []) ≡ xs
with_none a xs e = ap exchanges_in (append-nil a) ∙ e

-- the exchanges among a worker's steps are the journal's
pub exchanges_are : (setup : Setup) (past : List Entry) (w : ℕ) → exchanges_in (steps_of setup past w) ≡ exchanges_of setup past w
exchanges_are setup [] w = refl
exchanges_are setup (Entry.Seen observation ∷ past) w = on (w == 0) (exchanges_are setup past w)
  where
    on : (t : Bool) → exchanges_in (steps_of setup past w) ≡ exchanges_of setup past w
        → exchanges_in (steps_of setup past w ++ (if t then unpaused observation.exchanges else [])) ≡ (if t then exchanges_of setup past w ++ observation.exchanges else exchanges_of setup past w)
    on true e = with_these (steps_of setup past w) (unpaused observation.exchanges) (exchanges_of setup past w) observation.exchanges e (exchanges-unpaused observation.exchanges)
    on false e = with_none (steps_of setup past w) (exchanges_of setup past w) e
exchanges_are setup (Entry.Poll v s ∷ past) w = on (v == w) (exchanges_are setup past w)
  where
    on : (t : Bool) → exchanges_in (steps_of setup past w) ≡ exchanges_of setup past w
        → exchanges_in (steps_of setup past w ++ (if t then Paused 500 ∷ [] else [])) ≡ exchanges_of setup past w
    on true e = with_these (steps_of setup past w) (Paused 500 ∷ []) (exchanges_of setup past w) [] e refl ∙ append-nil (exchanges_of setup past w)
    on false e = with_none (steps_of setup past w) (exchanges_of setup past w) e
exchanges_are setup (Entry.Idle v ∷ past) w = on (v == w) (exchanges_are setup past w)
  where
    on : (t : Bool) → exchanges_in (steps_of setup past w) ≡ exchanges_of setup past w
        → exchanges_in (steps_of setup past w ++ (if t then Paused 250 ∷ [] else [])) ≡ exchanges_of setup past w
    on true e = with_these (steps_of setup past w) (Paused 250 ∷ []) (exchanges_of setup past w) [] e refl ∙ append-nil (exchanges_of setup past w)
    on false e = with_none (steps_of setup past w) (exchanges_of setup past w) e
exchanges_are setup (Entry.Ended v outcome ∷ past) w = on (v == w) (exchanges_are setup past w)
  where
    x : Exchange
    x = record { request = request_out setup past v; outcome = outcome }

    on : (t : Bool) → exchanges_in (steps_of setup past w) ≡ exchanges_of setup past w
        → exchanges_in (steps_of setup past w ++ (if t then Made x ∷ [] else [])) ≡ (if t then exchanges_of setup past w ++ x ∷ [] else exchanges_of setup past w)
    on true e = with_these (steps_of setup past w) (Made x ∷ []) (exchanges_of setup past w) (x ∷ []) e refl
    on false e = with_none (steps_of setup past w) (exchanges_of setup past w) e
exchanges_are setup (entry ∷ past) w = with_none (steps_of setup past w) (exchanges_of setup past w) (exchanges_are setup past w)

drop_all : {X : Type 0} (xs ys : List X) → drop (length xs) (xs ++ ys) ≡ ys
drop_all [] ys = refl
drop_all (x ∷ xs) ys = drop_all xs ys

-- what is left of a list behind its beginning
pub since_is : {X : Type 0} (all begin ys : List X) → all ≡ begin ++ ys → drop (length begin) all ≡ ys
since_is all begin ys e = ap (drop (length begin)) e ∙ drop_all begin ys

goes_past : (setup : Setup) (more past : List Entry) (w : ℕ) → (ys : List Step) × (steps_of setup (more ++ past) w ≡ steps_of setup past w ++ ys)
goes_past setup [] past w = ([], sym (append-nil (steps_of setup past w)))
goes_past setup (entry ∷ more) past w = on (goes_past setup more past w)
  where
    on : (ys : List Step) × (steps_of setup (more ++ past) w ≡ steps_of setup past w ++ ys) → (ys : List Step) × (steps_of setup (entry ∷ more ++ past) w ≡ steps_of setup past w ++ ys)
    on r = (
      r.0 ++ steps_for setup (more ++ past) w entry,
      ap (λ (l : List Step). l ++ steps_for setup (more ++ past) w entry) r.1 ∙ append_assoc (steps_of setup past w) r.0 (steps_for setup (more ++ past) w entry),
    )

begin_same : (setup : Setup) (all past : List Entry) (w : ℕ) → ((ys : List Step) × (steps_of setup all w ≡ steps_of setup past w ++ ys))
    → steps_of setup all w ≡ steps_of setup past w ++ drop (length (steps_of setup past w)) (steps_of setup all w)
begin_same setup all past w r = r.1 ∙ ap (λ (l : List Step). steps_of setup past w ++ l) (sym (since_is (steps_of setup all w) (steps_of setup past w) r.0 r.1))

-- what was done by a journal is the beginning of what is done by a longer one
pub joined : (setup : Setup) (old added : List Entry) (w : ℕ)
    → steps_of setup (reverse (old ++ added)) w ≡ steps_of setup (reverse old) w ++ drop (length (steps_of setup (reverse old) w)) (steps_of setup (reverse (old ++ added)) w)
joined setup old added w =
    subst (λ (all : List Entry). steps_of setup all w ≡ steps_of setup (reverse old) w ++ drop (length (steps_of setup (reverse old) w)) (steps_of setup all w)) (sym (reverse-append old added))
    (begin_same setup (reverse added ++ reverse old) (reverse old) w (goes_past setup (reverse added) (reverse old) w))

pub told-append : (xs ys : List Step) (a b c : Option Engine) → TellsSteps xs a b → TellsSteps ys b c → TellsSteps (xs ++ ys) a c
told-append [] ys a b c e h = subst (λ (o : Option Engine). TellsSteps ys o c) e h
told-append (x ∷ xs) ys a b c t h = (t.0, t.1, told-append xs ys t.0 b c t.2 h)

log-append : (xs ys l m : List Exchange) → IsLogOf xs l → IsLogOf ys m → IsLogOf (xs ++ ys) (l ++ m)
log-append [] ys l m e h = subst (λ (k : List Exchange). IsLogOf ys (k ++ m)) (sym e) h
log-append (x ∷ xs) ys [] [] b h = (b.0, log-append xs ys [] [] b.1 h)
log-append (x ∷ xs) ys [] (y ∷ m) b h = inr (b.0, log-append xs ys [] (y ∷ m) b.1 h)
log-append (x ∷ xs) ys (y ∷ l) m (inl b) h = inl (b.0, log-append xs ys l m b.1 h)
log-append (x ∷ xs) ys (y ∷ l) m (inr b) h = inr (b.0, log-append xs ys (y ∷ l) m b.1 h)

pub grows-append : (xs ys a b c : List Exchange) → GrowsBy xs a b → GrowsBy ys b c → GrowsBy (xs ++ ys) a c
grows-append xs ys a b c g h = record {
  more = g.more ++ h.more;
  grown = h.grown ∙ ap (λ (l : List Exchange). l ++ h.more) g.grown ∙ append_assoc a g.more h.more;
  are = log-append xs ys g.more h.more g.are h.are;
}

pub grows-none : (a : List Exchange) → GrowsBy [] a a
grows-none a = record { more = []; grown = sym (append-nil a); are = refl }

logged_so : (old new : List Exchange) (x : Exchange) → new ≡ old ++ x ∷ [] → GrowsBy (x ∷ []) old new
logged_so old new x e = record { more = x ∷ []; grown = e; are = inl (refl, refl) }

pub grows-one : (old : List Exchange) (request : Request) (outcome : Outcome) (new : List Exchange) → Logs old request outcome new
    → GrowsBy (record { request = request; outcome = outcome } ∷ []) old new
grows-one old request Outcome.Memory new (inl e) = record { more = []; grown = e ∙ sym (append-nil old); are = (refl, refl) }
grows-one old request Outcome.Memory new (inr e) = logged_so old new _ e
grows-one old request (Outcome.Answered reply) new e = logged_so old new _ e
grows-one old request (Outcome.Lost cause) new e = logged_so old new _ e
grows-one old request Outcome.NotSent new e = logged_so old new _ e
