-- What was asked for an action and for a poll, and who holds an action, in a legal journal.
use Rattle.std.proofs.Common.{◌≡◌, ◌⊎◌, ℕ, Bool, true, false, List, [], ◌∷◌, Option, Some, None, refl, sym, ap, ◌∙◌, subst, inl, inr}
use Rattle.std.proofs.lemmas.Bool.{eqb-true, eq-eqb}
use Rattle.std.specs.Prelude.{if◌then◌else◌, option_and_then, option_map, length, ◌==◌}
use Rattle.engine_types.specs.declared.ActionKind.{ActionKind}
use Rattle.engine_types.specs.declared.Aim.{Aim}
use Rattle.engine_types.specs.declared.Entry.{Entry}
use Rattle.engine_types.specs.declared.Reply.{Reply}
use Rattle.engine_types.specs.declared.Request.{Request}
use Rattle.run_model.specs.Journals.{Holding, Nothing, Out, Setup, Watch, Well, Work, ended_as, holding, is_free, standing}
use Rattle.run_model.specs.Legal.{IsLegal}
use Rattle.run_model.specs.Plans.{kind_of}
use Rattle.run_model.specs.Requests.{OfAction, OfPoll, action_request, asked, poll_request, request_of, slot_id}
use Rattle.run_model.proofs.LegalLaws.{claim_allowed}
use Rattle.run_model.proofs.PlanLaws.{both}

-- a list that the other one ends with
abbrev pub IsTail : {X : Type 0} → List X → List X → Type 0
IsTail tail [] = tail ≡ []
IsTail tail (x ∷ xs) = (tail ≡ x ∷ xs) ⊎ IsTail tail xs

-- the request of an action, as it was made where the action was claimed
pub record IsAsked (setup : Setup) (past : List Entry) (a : ℕ) (request : Request) : Type 0 where
  pub kind : ActionKind
  pub kind_is : kind_of setup.actions a ≡ Some kind
  pub tail : List Entry
  pub worker : ℕ
  pub claimed : IsTail (Entry.Claim worker a ∷ tail) past
  pub request_is : request_of setup tail kind ≡ Some request

asked_later : (setup : Setup) (entry : Entry) (past : List Entry) (a : ℕ) (request : Request) → IsAsked setup past a request → IsAsked setup (entry ∷ past) a request
asked_later setup entry past a request r = record { kind = r.kind; kind_is = r.kind_is; tail = r.tail; worker = r.worker; claimed = inr r.claimed; request_is = r.request_is }

-- what was asked for an action is its kind's request
pub is_asked : (setup : Setup) (past : List Entry) (a : ℕ) (request : Request) → asked setup past (OfAction a) ≡ Some request → IsAsked setup past a request
is_asked setup [] a request e = absurd (cc e)
is_asked setup (Entry.Claim w b ∷ past) a request e = at (b == a) refl (is_asked setup past a request) e
  where
    by_kind : b ≡ a → (o : Option ActionKind) → kind_of setup.actions a ≡ o → option_and_then (request_of setup past) o ≡ Some request
        → IsAsked setup (Entry.Claim w b ∷ past) a request
    by_kind same None h f = absurd (cc f)
    by_kind same (Some kind) h f = record {
      kind = kind;
      kind_is = h;
      tail = past;
      worker = w;
      claimed = inl (ap (λ (c : ℕ). Entry.Claim w c ∷ past) (sym same));
      request_is = f;
    }

    at : (t : Bool) → (b == a) ≡ t → (asked setup past (OfAction a) ≡ Some request → IsAsked setup past a request)
        → (if t then action_request setup past a else asked setup past (OfAction a)) ≡ Some request → IsAsked setup (Entry.Claim w b ∷ past) a request
    at true h rest f = by_kind (eqb-true b a h) (kind_of setup.actions a) refl f
    at false h rest f = asked_later setup (Entry.Claim w b) past a request (rest f)
is_asked setup (Entry.Seen observation ∷ past) a request e = asked_later setup (Entry.Seen observation) past a request (is_asked setup past a request e)
is_asked setup (Entry.Poll w s ∷ past) a request e = asked_later setup (Entry.Poll w s) past a request (is_asked setup past a request e)
is_asked setup (Entry.Ended w outcome ∷ past) a request e = asked_later setup (Entry.Ended w outcome) past a request (is_asked setup past a request e)
is_asked setup (Entry.Idle w ∷ past) a request e = asked_later setup (Entry.Idle w) past a request (is_asked setup past a request e)
is_asked setup (Entry.Leave w ∷ past) a request e = asked_later setup (Entry.Leave w) past a request (is_asked setup past a request e)
is_asked setup (Entry.Stop w ∷ past) a request e = asked_later setup (Entry.Stop w) past a request (is_asked setup past a request e)
is_asked setup (Entry.Late w why ∷ past) a request e = asked_later setup (Entry.Late w why) past a request (is_asked setup past a request e)
is_asked setup (Entry.Short w ∷ past) a request e = asked_later setup (Entry.Short w) past a request (is_asked setup past a request e)

-- a poll asks for the state of a container
pub poll_inspects : (setup : Setup) (past : List Entry) (n : ℕ) (request : Request) → asked setup past (OfPoll n) ≡ Some request → (id : List ℕ) × (request ≡ Request.Inspect id)
poll_inspects setup [] n request e = absurd (cc e)
poll_inspects setup (Entry.Poll w s ∷ past) n request e = at (length past == n) (poll_inspects setup past n request) e
  where
    by_id : (o : Option (List ℕ)) → option_map (λ id. Request.Inspect id) o ≡ Some request → (id : List ℕ) × (request ≡ Request.Inspect id)
    by_id None f = absurd (cc f)
    by_id (Some id) f = let same : Request.Inspect id ≡ request = cc f in (id, sym same)

    at : (t : Bool) → (asked setup past (OfPoll n) ≡ Some request → (id : List ℕ) × (request ≡ Request.Inspect id))
        → (if t then poll_request setup past s else asked setup past (OfPoll n)) ≡ Some request → (id : List ℕ) × (request ≡ Request.Inspect id)
    at true rest f = by_id (slot_id setup past s) f
    at false rest f = rest f
poll_inspects setup (Entry.Claim w a ∷ past) n request e = poll_inspects setup past n request e
poll_inspects setup (Entry.Seen observation ∷ past) n request e = poll_inspects setup past n request e
poll_inspects setup (Entry.Ended w outcome ∷ past) n request e = poll_inspects setup past n request e
poll_inspects setup (Entry.Idle w ∷ past) n request e = poll_inspects setup past n request e
poll_inspects setup (Entry.Leave w ∷ past) n request e = poll_inspects setup past n request e
poll_inspects setup (Entry.Stop w ∷ past) n request e = poll_inspects setup past n request e
poll_inspects setup (Entry.Late w why ∷ past) n request e = poll_inspects setup past n request e
poll_inspects setup (Entry.Short w ∷ past) n request e = poll_inspects setup past n request e

-- an action that a worker holds is out, and no other worker holds it
pub record IsHeld (setup : Setup) (past : List Entry) (w a : ℕ) : Type 0 where
  pub out : standing setup past a ≡ Out
  pub alone : (v : ℕ) → holding past v ≡ Work a → v ≡ w

-- what was free isn't out
not_free : (setup : Setup) (past : List Entry) (a b : ℕ) → b ≡ a → is_free (standing setup past b) ≡ true → standing setup past a ≡ Out → ⊥
not_free setup past a b same free out = let bad : false ≡ true = sym (ap is_free (ap (standing setup past) same ∙ out)) ∙ free in cc bad

pub is_held : (aim : Aim) (setup : Setup) (past : List Entry) (w a : ℕ) → IsLegal aim setup past → holding past w ≡ Work a → IsHeld setup past w a
is_held aim setup [] w a legal e = absurd (cc e)
is_held aim setup (Entry.Claim u b ∷ past) w a legal e = at (u == w) refl (b == a) refl e (λ v h. is_held aim setup past v a legal.0 h)
  where
    free : is_free (standing setup past b) ≡ true
    free = (both _ _ (both _ _ (claim_allowed aim setup past u b legal)).0).0

    others : b ≡ a → ((v : ℕ) → holding past v ≡ Work a → IsHeld setup past v a) → (v : ℕ) → holding past v ≡ Work a → ⊥
    others same rest v h = not_free setup past a b same free (rest v h).out

    alone : b ≡ a → u ≡ w → ((v : ℕ) → holding past v ≡ Work a → IsHeld setup past v a) → (v : ℕ) (t : Bool) → (u == v) ≡ t
        → (if t then Work b else holding past v) ≡ Work a → v ≡ w
    alone same here rest v true h f = sym (eqb-true u v h) ∙ here
    alone same here rest v false h f = absurd (others same rest v f)

    at : (t : Bool) → (u == w) ≡ t → (s : Bool) → (b == a) ≡ s → (if t then Work b else holding past w) ≡ Work a
        → ((v : ℕ) → holding past v ≡ Work a → IsHeld setup past v a) → IsHeld setup (Entry.Claim u b ∷ past) w a
    at true h s k f rest =
        let same : b ≡ a = cc f in
        record { out = rw (eq-eqb b a same) refl; alone = λ v g. alone same (eqb-true u w h) rest v (u == v) refl g }
    at false h true k f rest = absurd (others (eqb-true b a k) rest w f)
    at false h false k f rest = record { out = rw k (rest w f).out; alone = λ v g. apart v (u == v) refl g }
      where
        apart : (v : ℕ) (t : Bool) → (u == v) ≡ t → (if t then Work b else holding past v) ≡ Work a → v ≡ w
        apart v true m g = let same : b ≡ a = cc g in let bad : true ≡ false = sym (eq-eqb b a same) ∙ k in absurd (cc bad)
        apart v false m g = (rest w f).alone v g
is_held aim setup (Entry.Ended u outcome ∷ past) w a legal e = at (u == w) refl e (λ v h. is_held aim setup past v a legal.0 h)
  where
    at : (t : Bool) → (u == w) ≡ t → (if t then Nothing else holding past w) ≡ Work a → ((v : ℕ) → holding past v ≡ Work a → IsHeld setup past v a)
        → IsHeld setup (Entry.Ended u outcome ∷ past) w a
    at true h f rest = absurd (cc f)
    at false h f rest = record { out = still (holding past u) refl; alone = λ v g. alone v (u == v) g }
      where
        alone : (v : ℕ) (t : Bool) → (if t then Nothing else holding past v) ≡ Work a → v ≡ w
        alone v true g = absurd (cc g)
        alone v false g = (rest w f).alone v g

        on : (b : ℕ) → holding past u ≡ Work b → (s : Bool) → (b == a) ≡ s → (if s then ended_as (kind_of setup.actions a) outcome else standing setup past a) ≡ Out
        on b g true k =
            let same : u ≡ w = (rest w f).alone u (g ∙ ap Work (eqb-true b a k)) in
            let bad : true ≡ false = sym (eq-eqb u w same) ∙ h in absurd (cc bad)
        on b g false k = (rest w f).out

        still : (held : Holding) → holding past u ≡ held → standing setup (Entry.Ended u outcome ∷ past) a ≡ Out
        still Nothing g = rw g (rest w f).out
        still (Watch s) g = rw g (rest w f).out
        still (Work b) g = rw g (on b g (b == a) refl)
is_held aim setup (Entry.Poll u s ∷ past) w a legal e = at (u == w) e (λ v h. is_held aim setup past v a legal.0 h)
  where
    alone : (v : ℕ) (t : Bool) → (if t then Watch s else holding past v) ≡ Work a → IsHeld setup past w a → v ≡ w
    alone v true g r = absurd (cc g)
    alone v false g r = r.alone v g

    at : (t : Bool) → (if t then Watch s else holding past w) ≡ Work a → ((v : ℕ) → holding past v ≡ Work a → IsHeld setup past v a)
        → IsHeld setup (Entry.Poll u s ∷ past) w a
    at true f rest = absurd (cc f)
    at false f rest = record { out = (rest w f).out; alone = λ v g. alone v (u == v) g (rest w f) }
is_held aim setup (Entry.Seen observation ∷ past) w a legal e = let r = is_held aim setup past w a legal.0 e in record { out = r.out; alone = r.alone }
is_held aim setup (Entry.Idle u ∷ past) w a legal e = let r = is_held aim setup past w a legal.0 e in record { out = r.out; alone = r.alone }
is_held aim setup (Entry.Leave u ∷ past) w a legal e = let r = is_held aim setup past w a legal.0 e in record { out = r.out; alone = r.alone }
is_held aim setup (Entry.Stop u ∷ past) w a legal e = let r = is_held aim setup past w a legal.0 e in record { out = r.out; alone = r.alone }
is_held aim setup (Entry.Late u why ∷ past) w a legal e = let r = is_held aim setup past w a legal.0 e in record { out = r.out; alone = r.alone }
is_held aim setup (Entry.Short u ∷ past) w a legal e = let r = is_held aim setup past w a legal.0 e in record { out = r.out; alone = r.alone }

-- an action that ended well stays so
pub stays_well : (aim : Aim) (setup : Setup) (entry : Entry) (past : List Entry) (a : ℕ) (reply : Reply) → IsLegal aim setup (entry ∷ past)
    → standing setup past a ≡ Well reply → standing setup (entry ∷ past) a ≡ Well reply
stays_well aim setup (Entry.Claim w b) past a reply legal e = at (b == a) refl
  where
    at : (t : Bool) → (b == a) ≡ t → (if t then Out else standing setup past a) ≡ Well reply
    at true h =
        let free : is_free (standing setup past b) ≡ true = (both _ _ (both _ _ (claim_allowed aim setup past w b legal)).0).0 in
        let bad : false ≡ true = sym (ap is_free (ap (standing setup past) (eqb-true b a h) ∙ e)) ∙ free in absurd (cc bad)
    at false h = e
stays_well aim setup (Entry.Ended w outcome) past a reply legal e = at (holding past w) refl
  where
    on : (b : ℕ) → holding past w ≡ Work b → (t : Bool) → (b == a) ≡ t → (if t then ended_as (kind_of setup.actions a) outcome else standing setup past a) ≡ Well reply
    on b h true k =
        let held = is_held aim setup past w a legal.0 (h ∙ ap Work (eqb-true b a k)) in
        let bad : Out ≡ Well reply = sym held.out ∙ e in absurd (cc bad)
    on b h false k = e

    at : (held : Holding) → holding past w ≡ held → standing setup (Entry.Ended w outcome ∷ past) a ≡ Well reply
    at Nothing h = rw h e
    at (Watch s) h = rw h e
    at (Work b) h = rw h (on b h (b == a) refl)
stays_well aim setup (Entry.Seen observation) past a reply legal e = e
stays_well aim setup (Entry.Poll w s) past a reply legal e = e
stays_well aim setup (Entry.Idle w) past a reply legal e = e
stays_well aim setup (Entry.Leave w) past a reply legal e = e
stays_well aim setup (Entry.Stop w) past a reply legal e = e
stays_well aim setup (Entry.Late w why) past a reply legal e = e
stays_well aim setup (Entry.Short w) past a reply legal e = e

-- what had ended well at a tail of the journal has at its end
pub well_later : (aim : Aim) (setup : Setup) (tail past : List Entry) (a : ℕ) (reply : Reply) → IsLegal aim setup past → IsTail tail past
    → standing setup tail a ≡ Well reply → standing setup past a ≡ Well reply
well_later aim setup tail [] a reply legal t e = subst (λ (x : List Entry). standing setup x a ≡ Well reply) t e
well_later aim setup tail (entry ∷ past) a reply legal (inl t) e = subst (λ (x : List Entry). standing setup x a ≡ Well reply) t e
well_later aim setup tail (entry ∷ past) a reply legal (inr t) e = stays_well aim setup entry past a reply legal (well_later aim setup tail past a reply legal.0 t e)

-- a tail's rest is a tail
pub tail_of : {X : Type 0} → (x : X) (tail xs : List X) → IsTail (x ∷ tail) xs → IsTail tail xs
tail_of x tail [] t = absurd (cc t)
tail_of x tail (y ∷ ys) (inl t) = let same : tail ≡ ys = cc t in inr (all_of tail ys same)
  where
    all_of : {X : Type 0} → (s r : List X) → s ≡ r → IsTail s r
    all_of s [] e = e
    all_of s (z ∷ r) e = inl e
tail_of x tail (y ∷ ys) (inr t) = inr (tail_of x tail ys t)
