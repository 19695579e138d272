-- How far a run has come: what its journal and its hand went through since.
use Rattle.std.proofs.Common.{◌≡◌, ℕ, Bool, true, false, List, [], ◌∷◌, ◌++◌, length, reverse, Option, Some, if◌then◌else◌, refl, sym, ap, ◌∙◌, subst, append_assoc}
use Rattle.std.proofs.lemmas.Bool.{eq-eqb, true≢false}
use Rattle.std.proofs.lemmas.List.{append-nil, reverse-append}
use Rattle.std.specs.Prelude.{◌==◌, is_some}
use Rattle.engine_types.specs.declared.Aim.{Aim}
use Rattle.engine_types.specs.declared.Entry.{Entry}
use Rattle.engine_types.specs.declared.Exchange.{Exchange}
use Rattle.engine_types.specs.declared.Outcome.{Outcome}
use Rattle.engine_types.specs.declared.Request.{Request}
use Rattle.engine_types.specs.declared.Seen.{Seen}
use Rattle.outside_api.specs.Accounts.{Account, AreCaused}
use Rattle.outside_api.proofs.Accounts.{caused-append, caused-one}
use Rattle.run_model.specs.EngineRules.{Made, Paused, Step, TellsSteps, exchanges_in}
use Rattle.run_model.specs.Journals.{Nothing, Setup, Watch, Work, holding, is_open, seen_in}
use Rattle.run_model.specs.Legal.{Decision, Look, Pause, Take}
use Rattle.run_model.specs.Logs.{GrowsBy}
use Rattle.run_model.specs.Requests.{action_request, poll_request, request_out}
use Rattle.journal_laws.specs.Courses.{Course, MayAsk, entries, first_seen, grown, setup_of}
use Rattle.journal_laws.specs.Laws.{IsLegalRun, decided, decided_entry}
use Rattle.journal_laws.proofs.Following.{answers, ends}
use Rattle.ledger_run.specs.Steps.{steps_for, steps_of}
use Rattle.ledger_run.specs.Tellings.{Exchanges, Pauses, Telling, account_in}
use Rattle.ledger_run.specs.Turns.{with_more}
use Rattle.ledger_run.proofs.Stepping.{exchanges-append, grows-append, grows-none, grows-one, told-append}

-- the run has come from one moment to another: its journal goes on and stays legal, nobody holds a permit, and the worker's hand
-- went through these steps
pub record Came (old now : Course) (before after : Telling) : Type 0 where
  pub added : List Entry
  pub grown_by : now ≡ with_more old added
  pub setup : setup_of now ≡ setup_of old
  pub legal : (aim : Aim) → IsLegalRun aim old → IsLegalRun aim now
  pub begun : is_some (seen_in (entries now)) ≡ true
  pub idle : (w : ℕ) → holding (entries now) w ≡ Nothing
  pub steps : List Step
  pub are : steps_of (setup_of old) (entries now) 0 ≡ steps_of (setup_of old) (entries old) 0 ++ steps
  pub told : TellsSteps steps before.engine after.engine
  pub log : GrowsBy (exchanges_in steps) before.log after.log
  pub caused : AreCaused (exchanges_in steps) (account_in before) (account_in after)

-- nothing is entered, and what the hand tells of its exchanges and its Engine stays
pub came_still : (run : Course) (s t : Telling) → is_some (seen_in (entries run)) ≡ true → ((w : ℕ) → holding (entries run) w ≡ Nothing)
    → account_in t ≡ account_in s → t.engine ≡ s.engine → Came run run s t
came_still run s t begun idle same engine = record {
  added = [];
  grown_by = ap (λ (j : List Entry). record run { journal = j }) (sym (append-nil run.journal));
  setup = refl;
  legal = λ aim legal. legal;
  begun = begun;
  idle = idle;
  steps = [];
  are = sym (append-nil (steps_of (setup_of run) (entries run) 0));
  told = engine;
  log = subst (λ (a : Account). GrowsBy [] s.log a.log) (sym same) (grows-none s.log);
  caused = same;
}

-- one way behind another is one
pub came_on : (a b c : Course) (s t u : Telling) → Came a b s t → Came b c t u → Came a c s u
came_on a b c s t u x y = record {
  added = x.added ++ y.added;
  grown_by = y.grown_by ∙ ap (λ (run : Course). with_more run y.added) x.grown_by ∙ ap (λ (j : List Entry). record a { journal = j }) (append_assoc a.journal x.added y.added);
  setup = y.setup ∙ x.setup;
  legal = λ aim legal. y.legal aim (x.legal aim legal);
  begun = y.begun;
  idle = y.idle;
  steps = x.steps ++ y.steps;
  are = subst (λ (setup : Setup). steps_of setup (entries c) 0 ≡ steps_of setup (entries b) 0 ++ y.steps) x.setup y.are
      ∙ ap (λ (l : List Step). l ++ y.steps) x.are ∙ append_assoc (steps_of (setup_of a) (entries a) 0) x.steps y.steps;
  told = told-append x.steps y.steps s.engine t.engine u.engine x.told y.told;
  log = subst (λ (es : List Exchange). GrowsBy es s.log u.log) (sym (exchanges-append x.steps y.steps)) (grows-append (exchanges_in x.steps) (exchanges_in y.steps) s.log t.log u.log x.log y.log);
  caused = subst (λ (es : List Exchange). AreCaused es (account_in s) (account_in u)) (sym (exchanges-append x.steps y.steps))
      (caused-append (exchanges_in x.steps) (exchanges_in y.steps) (account_in s) (account_in t) (account_in u) x.caused y.caused);
}

-- the newest entry of a run that has grown
pub newest : (run : Course) (entry : Entry) → entries (grown run entry) ≡ entry ∷ entries run
newest run entry = reverse-append run.journal (entry ∷ [])

-- the newest two
pub newest_two : (run : Course) (first second : Entry) → entries (grown (grown run first) second) ≡ second ∷ first ∷ entries run
newest_two run first second = newest (grown run first) second ∙ ap (λ (past : List Entry). second ∷ past) (newest run first)

pub some_of : (run : Course) → is_some (seen_in (entries run)) ≡ true → run.journal ≡ [] → ⊥
some_of run begun e = true≢false (sym begun ∙ ap (λ (xs : List Entry). is_some (seen_in (reverse xs))) e)

seen_kept : (items more : List Entry) → (items ≡ [] → ⊥) → first_seen (items ++ more) ≡ first_seen items
seen_kept [] more some = absurd (some refl)
seen_kept (Entry.Seen observation ∷ rest) more some = refl
seen_kept (x ∷ rest) more some = refl

-- more entries leave what the run is of
pub setup_kept : (run : Course) (more : List Entry) → (run.journal ≡ [] → ⊥) → setup_of (with_more run more) ≡ setup_of run
setup_kept run more some = ap (λ (seen : Seen). record { declared = run.declared; seen = seen; actions = run.plan.actions; limits = run.limits }) (seen_kept run.journal more some)

-- an entry by which nobody gets a permit or ends one, and for which the hand does nothing
pub record IsQuiet (entry : Entry) : Type 0 where
  pub seen : (past : List Entry) → seen_in (entry ∷ past) ≡ seen_in past
  pub held : (past : List Entry) (w : ℕ) → holding (entry ∷ past) w ≡ holding past w
  pub nothing : (setup : Setup) (past : List Entry) → steps_for setup past 0 entry ≡ []

-- a quiet entry comes, and what the hand tells of its exchanges and its Engine stays
pub came_quiet : (run : Course) (entry : Entry) (s t : Telling) → is_some (seen_in (entries run)) ≡ true → ((w : ℕ) → holding (entries run) w ≡ Nothing)
    → IsQuiet entry → ((aim : Aim) → IsLegalRun aim run → IsLegalRun aim (grown run entry)) → account_in t ≡ account_in s → t.engine ≡ s.engine
    → Came run (grown run entry) s t
came_quiet run entry s t begun idle quiet legal same engine = record {
  added = entry ∷ [];
  grown_by = refl;
  setup = setup_kept run (entry ∷ []) (some_of run begun);
  legal = legal;
  begun = ap (λ (past : List Entry). is_some (seen_in past)) (newest run entry) ∙ ap (λ (o : Option Seen). is_some o) (quiet.seen (entries run)) ∙ begun;
  idle = λ w. ap (λ (past : List Entry). holding past w) (newest run entry) ∙ quiet.held (entries run) w ∙ idle w;
  steps = [];
  are = ap (λ (past : List Entry). steps_of (setup_of run) past 0) (newest run entry) ∙ ap (λ (l : List Step). steps_of (setup_of run) (entries run) 0 ++ l) (quiet.nothing (setup_of run) (entries run));
  told = engine;
  log = subst (λ (a : Account). GrowsBy [] s.log a.log) (sym same) (grows-none s.log);
  caused = same;
}

-- the hand pauses while there is nothing to do
pub came_idle : (run : Course) (s t : Telling) → MayAsk run 0 → ((w : ℕ) → holding (entries run) w ≡ Nothing) → decided run 0 ≡ Pause → Pauses 250 s t
    → Came run (grown run (Entry.Idle 0)) s t
came_idle run s t ready idle d p = record {
  added = Entry.Idle 0 ∷ [];
  grown_by = refl;
  setup = setup_kept run (Entry.Idle 0 ∷ []) (some_of run ready.begun);
  legal = λ aim legal. subst (λ (x : Decision). IsLegalRun aim (grown run (decided_entry 0 x))) d (answers aim run 0 legal ready);
  begun = ap (λ (past : List Entry). is_some (seen_in past)) (newest run (Entry.Idle 0)) ∙ ready.begun;
  idle = λ w. ap (λ (past : List Entry). holding past w) (newest run (Entry.Idle 0)) ∙ idle w;
  steps = Paused 250 ∷ [];
  are = ap (λ (past : List Entry). steps_of (setup_of run) past 0) (newest run (Entry.Idle 0));
  told = (t.engine, p.told, refl);
  log = subst (λ (a : Account). GrowsBy [] s.log a.log) (sym p.silent) (grows-none s.log);
  caused = p.silent;
}

-- the request of a claim that is out
work_out : (setup : Setup) (past : List Entry) (a : ℕ) (request : Request) → action_request setup past a ≡ Some request → request_out setup (Entry.Claim 0 a ∷ past) 0 ≡ request
work_out setup past a request q = rw (eq-eqb a a refl, q) refl

-- the request of a poll that is out
watch_out : (setup : Setup) (past : List Entry) (s : ℕ) (request : Request) → poll_request setup past s ≡ Some request → request_out setup (Entry.Poll 0 s ∷ past) 0 ≡ request
watch_out setup past s request q = rw (eq-eqb (length past) (length past) refl, q) refl

-- after the end of its permit the worker holds nothing, as before
idle_worked : (past : List Entry) (a w : ℕ) (outcome : Outcome) → holding past w ≡ Nothing → holding (Entry.Ended 0 outcome ∷ Entry.Claim 0 a ∷ past) w ≡ Nothing
idle_worked past a w outcome h = by (0 == w)
  where
    by : (t : Bool) → (if t then Nothing else (if t then Work a else holding past w)) ≡ Nothing
    by true = refl
    by false = h

idle_watched : (past : List Entry) (s w : ℕ) (outcome : Outcome) → holding past w ≡ Nothing → holding (Entry.Ended 0 outcome ∷ Entry.Poll 0 s ∷ past) w ≡ Nothing
idle_watched past s w outcome h = by (0 == w)
  where
    by : (t : Bool) → (if t then Nothing else (if t then Watch s else holding past w)) ≡ Nothing
    by true = refl
    by false = h

-- an action is claimed, made and ended
pub came_worked : (run : Course) (s t : Telling) (a : ℕ) (request : Request) (outcome : Outcome) → MayAsk run 0 → ((w : ℕ) → holding (entries run) w ≡ Nothing)
    → decided run 0 ≡ Take a → action_request (setup_of run) (entries run) a ≡ Some request → Exchanges request outcome s t
    → Came run (grown (grown run (Entry.Claim 0 a)) (Entry.Ended 0 outcome)) s t
came_worked run s t a request outcome ready idle d q x = record {
  added = Entry.Claim 0 a ∷ Entry.Ended 0 outcome ∷ [];
  grown_by = ap (λ (j : List Entry). record run { journal = j }) (append_assoc run.journal (Entry.Claim 0 a ∷ []) (Entry.Ended 0 outcome ∷ []));
  setup = setup_kept (grown run (Entry.Claim 0 a)) (Entry.Ended 0 outcome ∷ []) later ∙ setup_kept run (Entry.Claim 0 a ∷ []) (some_of run ready.begun);
  legal = λ aim legal. ends aim (grown run (Entry.Claim 0 a)) 0 outcome
      (subst (λ (y : Decision). IsLegalRun aim (grown run (decided_entry 0 y))) d (answers aim run 0 legal ready))
      (ap (λ (past : List Entry). is_open (holding past 0)) (newest run (Entry.Claim 0 a)));
  begun = ap (λ (past : List Entry). is_some (seen_in past)) two ∙ ready.begun;
  idle = λ w. ap (λ (past : List Entry). holding past w) two ∙ idle_worked (entries run) a w outcome (idle w);
  steps = Made made ∷ [];
  are = ap (λ (past : List Entry). steps_of (setup_of run) past 0) two
      ∙ ap (λ (l : List Step). l ++ Made (record { request = request_out (setup_of run) (Entry.Claim 0 a ∷ entries run) 0; outcome = outcome }) ∷ []) (append-nil (steps_of (setup_of run) (entries run) 0))
      ∙ ap (λ (r : Request). steps_of (setup_of run) (entries run) 0 ++ Made (record { request = r; outcome = outcome }) ∷ []) (work_out (setup_of run) (entries run) a request q);
  told = (t.engine, x.told, refl);
  log = grows-one s.log request outcome t.log x.caused.logged;
  caused = caused-one made (account_in s) (account_in t) x.caused;
}
  where
    made : Exchange
    made = record { request = request; outcome = outcome }

    two : entries (grown (grown run (Entry.Claim 0 a)) (Entry.Ended 0 outcome)) ≡ Entry.Ended 0 outcome ∷ Entry.Claim 0 a ∷ entries run
    two = newest_two run (Entry.Claim 0 a) (Entry.Ended 0 outcome)

    later : (grown run (Entry.Claim 0 a)).journal ≡ [] → ⊥
    later = some_of (grown run (Entry.Claim 0 a)) (ap (λ (past : List Entry). is_some (seen_in past)) (newest run (Entry.Claim 0 a)) ∙ ready.begun)

-- a slot is polled after a pause
pub came_watched : (run : Course) (s m t : Telling) (slot : ℕ) (request : Request) (outcome : Outcome) → MayAsk run 0 → ((w : ℕ) → holding (entries run) w ≡ Nothing)
    → decided run 0 ≡ Look slot → poll_request (setup_of run) (entries run) slot ≡ Some request → Pauses 500 s m → Exchanges request outcome m t
    → Came run (grown (grown run (Entry.Poll 0 slot)) (Entry.Ended 0 outcome)) s t
came_watched run s m t slot request outcome ready idle d q p x = record {
  added = Entry.Poll 0 slot ∷ Entry.Ended 0 outcome ∷ [];
  grown_by = ap (λ (j : List Entry). record run { journal = j }) (append_assoc run.journal (Entry.Poll 0 slot ∷ []) (Entry.Ended 0 outcome ∷ []));
  setup = setup_kept (grown run (Entry.Poll 0 slot)) (Entry.Ended 0 outcome ∷ []) later ∙ setup_kept run (Entry.Poll 0 slot ∷ []) (some_of run ready.begun);
  legal = λ aim legal. ends aim (grown run (Entry.Poll 0 slot)) 0 outcome
      (subst (λ (y : Decision). IsLegalRun aim (grown run (decided_entry 0 y))) d (answers aim run 0 legal ready))
      (ap (λ (past : List Entry). is_open (holding past 0)) (newest run (Entry.Poll 0 slot)));
  begun = ap (λ (past : List Entry). is_some (seen_in past)) two ∙ ready.begun;
  idle = λ w. ap (λ (past : List Entry). holding past w) two ∙ idle_watched (entries run) slot w outcome (idle w);
  steps = Paused 500 ∷ Made made ∷ [];
  are = ap (λ (past : List Entry). steps_of (setup_of run) past 0) two
      ∙ append_assoc (steps_of (setup_of run) (entries run) 0) (Paused 500 ∷ []) (Made (record { request = request_out (setup_of run) (Entry.Poll 0 slot ∷ entries run) 0; outcome = outcome }) ∷ [])
      ∙ ap (λ (r : Request). steps_of (setup_of run) (entries run) 0 ++ Paused 500 ∷ Made (record { request = r; outcome = outcome }) ∷ []) (watch_out (setup_of run) (entries run) slot request q);
  told = (m.engine, p.told, (t.engine, x.told, refl));
  log = subst (λ (a : Account). GrowsBy (made ∷ []) a.log t.log) p.silent (grows-one m.log request outcome t.log x.caused.logged);
  caused = subst (λ (a : Account). AreCaused (made ∷ []) a (account_in t)) p.silent (caused-one made (account_in m) (account_in t) x.caused);
}
  where
    made : Exchange
    made = record { request = request; outcome = outcome }

    two : entries (grown (grown run (Entry.Poll 0 slot)) (Entry.Ended 0 outcome)) ≡ Entry.Ended 0 outcome ∷ Entry.Poll 0 slot ∷ entries run
    two = newest_two run (Entry.Poll 0 slot) (Entry.Ended 0 outcome)

    later : (grown run (Entry.Poll 0 slot)).journal ≡ [] → ⊥
    later = some_of (grown run (Entry.Poll 0 slot)) (ap (λ (past : List Entry). is_some (seen_in past)) (newest run (Entry.Poll 0 slot)) ∙ ready.begun)
