-- What a call leaves, by what its run left.
use Rattle.std.proofs.Common.{◌≡◌, ℕ, zero, suc, ◌≤◌, Bool, true, false, List, [], ◌∷◌, ◌++◌, Option, Some, None, length, take, refl, sym, ap, ◌∙◌, subst, inl, inr, arith, append-nil}
use Rattle.std.specs.Prelude.{IfSome, Ok, slice_get}
use Rattle.std.specs.Option.{option_map_or}
use Rattle.engine_types.specs.declared.Aim.{Aim}
use Rattle.engine_types.specs.declared.Engine.{Engine}
use Rattle.engine_types.specs.declared.RunFault.{RunFault}
use Rattle.engine_types.specs.declared.RunLimits.{RunLimits}
use Rattle.engine_types.specs.declared.RunOptions.{RunOptions}
use Rattle.asked_project.specs.Asking.{Variables, command_of}
use Rattle.asked_project.specs.Meaning.{IsSpelled, MeansAs, meaning}
use Rattle.asked_project.specs.declared.Asked.{Asked}
use Rattle.asked_run.specs.Declaring.{ForDeclared}
use Rattle.compose_cli.specs.Runs.{ForTask, HoldsExactly, HoldsNone, IfRuns, IsCausedAnew, IsRefusalOf, IsStatusOf, LeadsOn, RanAlone, RanAs, Reports, aim_asked, aim_for, first_reading, options_for, refusal_after}
use Rattle.compose_cli.specs.declared.ended.Ended.{Ended}
use Rattle.engine_types.specs.declared.Entry.{Entry}
use Rattle.engine_types.specs.declared.Exchange.{Exchange}
use Rattle.compose_config.proofs.Loads.{for_project}
use Rattle.compose_words.specs.declared.Command.{Command}
use Rattle.outside_files.specs.Files.{Contents}
use Rattle.ledger_run.specs.Tellings.{Telling, account_in}
use Rattle.outside_api.specs.Accounts.{Account, account}
use Rattle.outside_api.specs.Clock.{Clock, new_clock}
use Rattle.outside_api.specs.Hands.{BeginsWith, Heard, HeardNothing}
use Rattle.outside_files.specs.Sinks.{GrewBy}
use Rattle.project_run.specs.Timing.{IsTimed, ReadsFirst}
use Rattle.project_run.specs.Whole.{IfBegun, IsCaused, IsFault, IsReport, SparesKept, task_of}
use Rattle.project_run.specs.Worlds.{EndsExact, EndsGone, GoesThrough, MakesOnce, RollsFew, SparesAgreeing}
use Rattle.refusals.specs.Origins.{IsOfRun, run_refusal}
use Rattle.refusals.specs.Statuses.{refusal_status, status_of}
use Rattle.refusals.specs.declared.Refusal.{Refusal}
use Rattle.run_model.specs.EngineRules.{Among}
use Rattle.run_model.specs.Ending.{fault_status}
use Rattle.run_model.specs.Logs.{GrowsBy}
use Rattle.run_model.specs.Observation.{is_up}
use Rattle.world_laws.specs.OwnSpecs.{HasOwnSpecs}
use Rattle.run_model.specs.Runs.{IsLeftByAll, IsRun, IsWorldOfRun, Task, limits_of, run_exchanges, run_fault, run_report}
use Rattle.run_model.specs.Worlds.{Move}
use Rattle.refusals.specs.Saying.{IsSaid, IsSaidIfAny}
use Rattle.outside_files.specs.Writing.{Says, Wrote}
use Rattle.refusals.proofs.Said.{said, said_if_any, unsaid}
use Rattle.compose_cli.proofs.Statuses.{not_refused}

-- a run's refusal is no refusal of loading
pub run_origin : (fault : RunFault) → IsOfRun (Some (run_refusal fault))
run_origin (RunFault.Seen fault) = tt
run_origin (RunFault.Request request outcome) = tt
run_origin (RunFault.Condition slot condition report) = tt
run_origin RunFault.Stopped = tt
run_origin (RunFault.Late why) = tt
run_origin RunFault.Memory = tt

-- what is said of a refusal of a run is one of a run
pub said_origin : (refusal found : Option Refusal) → IsOfRun refusal → IsSaidIfAny refusal found → IsOfRun found
said_origin None found o h = subst IsOfRun (sym h) tt
said_origin (Some refusal) found o h = said refusal found h IsOfRun tt o

-- the refusal of a run that went well is a fault of the output, where its report wasn't written whole
pub after_refused : (fault : Option RunFault) (whole : Bool) (text : List ℕ) (written_old written_new : Option (List ℕ)) (old new : ℕ) → Wrote whole text written_old written_new old new → IsRefusalOf fault old new (refusal_after fault whole)
after_refused (Some fault) whole text written_old written_new old new w = inl refl
after_refused None true text written_old written_new old new w = inl refl
after_refused None false text written_old written_new old new w = inr (inl (refl, refl, w.0))

pub after_origin : (fault : Option RunFault) (whole : Bool) → IsOfRun (refusal_after fault whole)
after_origin (Some fault) whole = run_origin fault
after_origin None true = tt
after_origin None false = tt

pub after_reports : (fault : Option RunFault) (whole : Bool) (text : List ℕ) (written_old written_new : Option (List ℕ)) (old new : ℕ) → Wrote whole text written_old written_new old new → Reports text (refusal_after fault whole) written_old written_new old new
after_reports (Some fault) whole text written_old written_new old new w = inl (whole, w)
after_reports None true text written_old written_new old new w = w
after_reports None false text written_old written_new old new w = inl (false, w)

take_none : (n : ℕ) (xs : List ℕ) → xs ≡ [] → take n xs ≡ []
take_none zero xs e = refl
take_none (suc n) [] e = refl
take_none (suc n) (x ∷ xs) e = absurd (cc e)

module _ (old new : ℕ) where
  -- where the line's memory is wanted, the refusal is a want of memory
  said_refused : (fault : Option RunFault) (refusal found : Option Refusal) → IsRefusalOf fault old new refusal → IsSaidIfAny refusal found → IsRefusalOf fault old new found
  said_refused fault None found r h = subst (IsRefusalOf fault old new) (sym h) r
  said_refused fault (Some refusal) found r h = said refusal found h (IsRefusalOf fault old new) (inr (inr refl)) r

  -- where the fault's memory is wanted, too
  told_refused : (expected fault : Option RunFault) (refusal : Option Refusal) → IsFault expected fault → IsRefusalOf fault old new refusal → IsRefusalOf expected old new refusal
  told_refused expected fault refusal (inl e) r = subst (λ (f : Option RunFault). IsRefusalOf f old new refusal) e r
  told_refused expected fault refusal (inr e) r = at (subst (λ (f : Option RunFault). IsRefusalOf f old new refusal) e r)
    where
      at : IsRefusalOf (Some RunFault.Memory) old new refusal → IsRefusalOf expected old new refusal
      at (inl h) = inr (inr h)
      at (inr (inl h)) = absurd (cc (h.0))
      at (inr (inr h)) = inr (inr h)

  pub refused_by : (expected fault : Option RunFault) (refusal found : Option Refusal) → IsFault expected fault → IsRefusalOf fault old new refusal → IsSaidIfAny refusal found
      → IsRefusalOf expected old new found
  refused_by expected fault refusal found f r h = told_refused expected fault found f (said_refused fault refusal found r h)

  -- a want of memory of the run is one of the call
  pub memory_by : (refusal found : Option Refusal) → IsRefusalOf (Some RunFault.Memory) old new refusal → IsSaidIfAny refusal found → found ≡ Some Refusal.Memory
  memory_by refusal found r h = at (said_refused (Some RunFault.Memory) refusal found r h)
    where
      at : IsRefusalOf (Some RunFault.Memory) old new found → found ≡ Some Refusal.Memory
      at (inl e) = e
      at (inr (inl e)) = absurd (cc (e.0))
      at (inr (inr e)) = e

  abbrev GrewByPart : Option (List ℕ) → Option (List ℕ) → List ℕ → Type 0
  GrewByPart written_old written_new report = (n : ℕ) × (n ≤ length report) × GrewBy written_old (take n report) written_new

  none_of : (written_old written_new : Option (List ℕ)) (report : List ℕ) → Says [] written_old written_new old new → GrewByPart written_old written_new report
  none_of written_old written_new report says = at says.0 says.1
    where
      at : (whole : Bool) → Wrote whole [] written_old written_new old new → GrewByPart written_old written_new report
      at true w = (0, omega arith, w)
      at false w = (0, omega arith, subst (λ (xs : List ℕ). GrewBy written_old xs written_new) (take_none w.1.0 [] refl) w.1.2)

  none_by : (refusal : Option Refusal) (written_old written_new : Option (List ℕ)) (report : List ℕ) → Reports [] refusal written_old written_new old new → GrewByPart written_old written_new report
  none_by None written_old written_new report grew = (0, omega arith, grew)
  none_by (Some refusal) written_old written_new report (inl says) = none_of written_old written_new report says
  none_by (Some refusal) written_old written_new report (inr wanted) = (0, omega arith, subst (λ (xs : List ℕ). GrewBy written_old xs written_new) (take_none wanted.1.0 [] refl) wanted.1.2)

  none_more : (written_old written_new : Option (List ℕ)) (text : List ℕ) → text ≡ [] → GrewBy written_old text written_new → written_new ≡ written_old
  none_more None written_new text e grew = grew
  none_more (Some before) written_new text e grew = grew ∙ ap (λ (l : List ℕ). Some l) (ap (λ (l : List ℕ). before ++ l) e ∙ append-nil before)

  says_none : (written_old written_new : Option (List ℕ)) (text : List ℕ) → text ≡ [] → Says text written_old written_new old new → written_new ≡ written_old
  says_none written_old written_new text e says = at says.0 says.1
    where
      at : (whole : Bool) → Wrote whole text written_old written_new old new → written_new ≡ written_old
      at true w = none_more written_old written_new text e w
      at false w = none_more written_old written_new (take w.1.0 text) (take_none w.1.0 text e) w.1.2

  reports_none : (refusal : Option Refusal) (written_old written_new : Option (List ℕ)) (text : List ℕ) → text ≡ [] → Reports text refusal written_old written_new old new → written_new ≡ written_old
  reports_none None written_old written_new text e wrote = none_more written_old written_new text e wrote
  reports_none (Some refusal) written_old written_new text e (inl says) = says_none written_old written_new text e says
  reports_none (Some refusal) written_old written_new text e (inr wanted) = none_more written_old written_new (take wanted.1.0 text) (take_none wanted.1.0 text e) wanted.1.2

  -- of a journal without entries there is no report, and nothing is written
  pub unwritten : (task : Task) (journal : List Entry) (fault : Option RunFault) (report : List ℕ) (refusal : Option Refusal) (written_old written_new : Option (List ℕ)) → IsReport (run_report task journal) fault report
      → Reports report refusal written_old written_new old new → journal ≡ [] → written_new ≡ written_old
  unwritten task journal fault report refusal written_old written_new is wrote e =
      reports_none refusal written_old written_new report (at (subst (λ (j : List Entry). IsReport (run_report task j) fault report) e is)) wrote
    where
      at : IsReport (run_report task []) fault report → report ≡ []
      at (inl same) = same
      at (inr none) = none.0

  -- where the line's memory is wanted, the report is as it was
  reports_wanted : (report : List ℕ) (refusal : Option Refusal) (written_old written_new : Option (List ℕ)) → Reports report refusal written_old written_new old new → Reports report (Some Refusal.Memory) written_old written_new old new
  reports_wanted report None written_old written_new grew = inl (true, grew)
  reports_wanted report (Some refusal) written_old written_new (inl says) = inl says
  reports_wanted report (Some refusal) written_old written_new (inr wanted) = inr (refl, wanted.1)

  -- the report that was written
  pub reports_by : (expected report : List ℕ) (fault : Option RunFault) (refusal found : Option Refusal) (written_old written_new : Option (List ℕ)) → IsReport expected fault report
      → Reports report refusal written_old written_new old new → IsRefusalOf fault old new refusal → IsSaidIfAny refusal found → Reports expected found written_old written_new old new
  reports_by expected report fault refusal found written_old written_new (inl e) wrote r h =
      let whole = subst (λ (t : List ℕ). Reports t refusal written_old written_new old new) e wrote in
      said_if_any refusal found h (λ f. Reports expected f written_old written_new old new) (reports_wanted expected refusal written_old written_new whole) whole
  reports_by expected report fault refusal found written_old written_new (inr e) wrote r h =
      subst (λ (f : Option Refusal). Reports expected f written_old written_new old new) (sym (memory_by refusal found (subst (λ (f : Option RunFault). IsRefusalOf f old new refusal) e.1 r) h))
      (inr (refl, none_by refusal written_old written_new expected (subst (λ (t : List ℕ). Reports t refusal written_old written_new old new) e.0 wrote)))

-- the status by a run's fault
same_status : (fault : RunFault) → refusal_status (run_refusal fault) ≡ fault_status fault
same_status (RunFault.Seen fault) = refl
same_status (RunFault.Request request outcome) = refl
same_status (RunFault.Condition slot condition report) = refl
same_status RunFault.Stopped = refl
same_status (RunFault.Late why) = refl
same_status RunFault.Memory = refl

pub status_by : (fault : Option RunFault) (old new : ℕ) (refusal : Option Refusal) (status : ℕ) → IsRefusalOf fault old new refusal → status ≡ status_of refusal
    → IsStatusOf (option_map_or fault_status fault 0) status
status_by None old new refusal status (inl r) e = inl (e ∙ ap status_of r)
status_by (Some fault) old new refusal status (inl r) e = inl (e ∙ (ap status_of r ∙ same_status fault))
status_by fault old new refusal status (inr (inl r)) e = inr (inl (ap (λ (f : Option RunFault). option_map_or fault_status f 0) r.0, e ∙ ap status_of r.1))
status_by fault old new refusal status (inr (inr r)) e = inr (inr (e ∙ ap status_of r))

-- the cause of each exchange, with a hand whose log was empty and which counted no fault
caused_anew : (task : Task) (journal : List Entry) (w : ℕ) (log : List Exchange) (heard : Option (List Heard)) (faults : ℕ) (now : Account) → log ≡ [] → HeardNothing heard → faults ≡ 0
    → IsCaused task journal w (account log heard faults) now → IsCausedAnew task journal w now
caused_anew task journal w log heard faults now unused unheard faultless is = (
  heard,
  unheard,
  subst (λ (n : ℕ). IsCaused task journal w (account [] heard n) now) faultless
      (subst (λ (l : List Exchange). IsCaused task journal w (account l heard faults) now) unused is),
)

among_one : {X : Type 0} (xs : List X) (x y : X) → xs ≡ x ∷ [] → Among xs y → y ≡ x
among_one xs x y e m = at (subst (λ (l : List _). Among l y) e m)
  where
    at : Among (x ∷ []) y → y ≡ x
    at (inl h) = h
    at (inr h) = absurd h

-- a fact on the only one is one on each
only_among : {X : Type 0} (xs : List X) (x : X) (Fact : X → Type 0) → xs ≡ x ∷ [] → Fact x → (y : X) → Among xs y → Fact y
only_among xs x Fact one fact y m = subst Fact (sym (among_one xs x y one m)) fact

-- the only hand is that of worker 0
only_at : {X : Type 0} (xs : List X) (x y : X) (w : ℕ) → xs ≡ x ∷ [] → slice_get xs w ≡ Some y → (w ≡ 0) × (y ≡ x)
only_at xs x y w e m = at w (subst (λ (l : List _). slice_get l w ≡ Some y) e m)
  where
    at : (n : ℕ) → slice_get (x ∷ []) n ≡ Some y → (n ≡ 0) × (y ≡ x)
    at zero h = (refl, cc h)
    at (suc n) h = absurd (cc h)

-- a fact on a journal that has an entry, from another one
pub if_begun : (journal : List Entry) {A R : Type 0} → IfBegun journal A → (A → R) → IfBegun journal R
if_begun [] a f = tt
if_begun (entry ∷ rest) a f = f a

-- the same, where other facts on the journal's run are at hand
pub if_begun_in : (journal : List Entry) {A R : Type 0} → IfBegun journal A → (((B : Type 0) → IfBegun journal B → B) → A → R) → IfBegun journal R
if_begun_in [] a f = tt
if_begun_in (entry ∷ rest) a f = f (λ B b. b) a

-- a run of which nothing is refused went well
unrefused : (fault : Option RunFault) (old new : ℕ) (refusal : Option Refusal) → IsRefusalOf fault old new refusal → refusal ≡ None → fault ≡ None
unrefused None old new refusal r e = refl
unrefused (Some fault) old new refusal (inl h) e = let bad : Some (run_refusal fault) ≡ None = sym h ∙ e in absurd (cc bad)
unrefused (Some fault) old new refusal (inr (inl h)) e = absurd (cc (h.0))
unrefused (Some fault) old new refusal (inr (inr h)) e = let bad : Some Refusal.Memory ≡ None = sym h ∙ e in absurd (cc bad)

pub went_well : (fault : Option RunFault) (old new : ℕ) (refusal found : Option Refusal) → IsRefusalOf fault old new refusal → IsSaidIfAny refusal found → found ≡ None → fault ≡ None
went_well fault old new refusal found r h e = unrefused fault old new refusal r (unsaid refusal found h e)

-- a fact on the only hand, which is worker 0's, is one on the hand of each worker
only_hand : {H : Type 0} (hands : List H) (after : H) (Fact : ℕ → H → Type 0) → hands ≡ after ∷ [] → Fact 0 after → (w : ℕ) (hand : H) → slice_get hands w ≡ Some hand → Fact w hand
only_hand hands after Fact one fact w hand m = let only = only_at hands after hand w one m in subst (λ (n : ℕ). Fact n hand) (sym only.0) (subst (Fact 0) (sym only.1) fact)

-- what a call leaves, by what its run left
pub ran_as : {H : Type 0} (tell : H → Telling) (task : Task) (journal : List Entry) (hands : List H) (status : ℕ) (report : List ℕ)
    (fault : Option RunFault) (refusal found : Option Refusal) (hand after : H) (written_old written_new : Option (List ℕ)) (old new : ℕ)
    → task.limits.workers ≡ 1 → HasOwnSpecs task.declared → IfBegun journal (IsRun task journal) → IfBegun journal (IsLeftByAll task journal) → IfBegun journal (GrowsBy (run_exchanges task journal 0) (tell hand).log (tell after).log) → IfBegun journal (IsFault (run_fault task journal) fault) → IfBegun journal (IsTimed task journal 0 (tell hand).clock (tell after).clock)
    → IfBegun journal (ReadsFirst task.limits.deadline (length (tell hand).log) (tell after).clock)
    → IsReport (run_report task journal) fault report → IsCaused task journal 0 (account_in (tell hand)) (account_in (tell after))
    → (is_up task.aim.purpose ≡ true → SparesKept task journal) → IfBegun journal (is_up task.aim.purpose ≡ true → HasOwnSpecs task.declared → MakesOnce task journal)
    → IfBegun journal (is_up task.aim.purpose ≡ true → HasOwnSpecs task.declared → SparesAgreeing task journal) → IfBegun journal (is_up task.aim.purpose ≡ true → RollsFew task journal)
    → (fault ≡ None → is_up task.aim.purpose ≡ true → HasOwnSpecs task.declared → EndsExact task journal) → (fault ≡ None → is_up task.aim.purpose ≡ false → EndsGone task journal)
    → (tell hand).log ≡ [] → (tell hand).clock ≡ new_clock → HeardNothing (tell hand).heard → (tell hand).faults ≡ 0 → hands ≡ after ∷ [] → IsRefusalOf fault old new refusal → Reports report refusal written_old written_new old new → IsSaidIfAny refusal found → status ≡ status_of found
    → IfBegun journal (RanAs tell task (record { status = status; journal = journal; hands = hands; refusal = found }) written_old written_new old new)
ran_as tell task journal hands status report fault refusal found hand after written_old written_new old new worker own is left grows told times firsts reports causes spares once agreeing rolls ends lacks unused unread unheard faultless one refused says is_said is_status =
    if_begun_in journal is (λ inside run.
    let is_refusal = refused_by old new (run_fault task journal) fault refusal found (inside (IsFault (run_fault task journal) fault) told) refused is_said in record {
      legal = run;
      left = inside (IsLeftByAll task journal) left;
      hands = ap length one ∙ sym worker;
      log = only_hand hands after (λ w h. GrowsBy (run_exchanges task journal w) [] (tell h).log) one
          (subst (λ (l : List Exchange). GrowsBy (run_exchanges task journal 0) l (tell after).log) unused (inside (GrowsBy (run_exchanges task journal 0) (tell hand).log (tell after).log) grows));
      cause = only_hand hands after (λ w h. IsCausedAnew task journal w (account_in (tell h))) one
          (caused_anew task journal 0 (tell hand).log (tell hand).heard (tell hand).faults (account_in (tell after)) unused unheard faultless causes);
      timed = only_hand hands after (λ w h. IsTimed task journal w new_clock (tell h).clock) one
          (subst (λ (c : Clock). IsTimed task journal 0 c (tell after).clock) unread (inside (IsTimed task journal 0 (tell hand).clock (tell after).clock) times));
      read_first = only_hand hands after (λ w h. ReadsFirst task.limits.deadline 0 (tell h).clock) one
          (subst (λ (l : List Exchange). ReadsFirst task.limits.deadline (length l) (tell after).clock) unused (inside (ReadsFirst task.limits.deadline (length (tell hand).log) (tell after).clock) firsts)) 0;
      run_status = status_by (run_fault task journal) old new found status is_refusal is_status;
      run_fault = is_refusal;
      report = reports_by old new (run_report task journal) report fault refusal found written_old written_new reports says refused is_said;
      kept = spares;
      once = λ up. inside (is_up task.aim.purpose ≡ true → HasOwnSpecs task.declared → MakesOnce task journal) once up own;
      agreeing = λ up. inside (is_up task.aim.purpose ≡ true → HasOwnSpecs task.declared → SparesAgreeing task journal) agreeing up own;
      rolls = inside (is_up task.aim.purpose ≡ true → RollsFew task journal) rolls;
      exact_in_each_world = λ zero up. ends (went_well fault old new refusal found refused is_said (not_refused found status is_status zero)) up own;
      gone_in_each_world = λ zero. lacks (went_well fault old new refusal found refused is_said (not_refused found status is_status zero));
    })

-- the Engine that a hand tells holds what each one holds that the run may have led to
holds_by : (task : Task) (journal : List Entry) (began now : Option Engine) → GoesThrough task journal began now → EndsExact task journal → HoldsExactly task now
holds_by task journal None now goes ends = subst (HoldsExactly task) (sym goes) tt
holds_by task journal (Some first) None goes ends = tt
holds_by task journal (Some first) (Some last) goes ends = ends first last goes.0 goes.1

lacks_by : (task : Task) (journal : List Entry) (began now : Option Engine) → GoesThrough task journal began now → EndsGone task journal → HoldsNone task now
lacks_by task journal None now goes ends = subst (HoldsNone task) (sym goes) tt
lacks_by task journal (Some first) None goes ends = tt
lacks_by task journal (Some first) (Some last) goes ends = ends first last goes.0 goes.1

-- the hand told the plug's Engine at first
leads_by : (task : Task) (journal : List Entry) (plugged told now : Option Engine) → BeginsWith plugged told → GoesThrough task journal told now → LeadsOn task journal plugged now
leads_by task journal None told now b g = tt
leads_by task journal (Some engine) told None b g = tt
leads_by task journal (Some engine) None (Some last) b g = absurd (cc g)
leads_by task journal (Some engine) (Some own) (Some last) b g = subst (λ (first : Engine). (moves : List Move) × IsWorldOfRun task journal first moves last) b g

-- a call that ran a task with one hand, and what became of the Engine that this hand tells
pub ran_alone : {H : Type 0} (tell : H → Telling) (task : Task) (ended : Ended H) (hand after : H) (written_old written_new : Option (List ℕ)) (old new : ℕ)
    → IfBegun ended.journal (RanAs tell task ended written_old written_new old new) → IfBegun ended.journal (GoesThrough task ended.journal (tell hand).engine (tell after).engine) → ended.hands ≡ after ∷ []
    → IfBegun ended.journal ((began : Option Engine) → BeginsWith began (tell hand).engine → RanAlone tell began task ended written_old written_new old new)
ran_alone tell task ended hand after written_old written_new old new ran goes one =
    if_begun_in ended.journal ran (λ inside whole began begins.
    let through = inside (GoesThrough task ended.journal (tell hand).engine (tell after).engine) goes in record {
      ran = whole;
      world = only_among ended.hands after (λ h. LeadsOn task ended.journal began (tell h).engine) one (leads_by task ended.journal began (tell hand).engine (tell after).engine begins through);
      exact = λ zero up. only_among ended.hands after (λ h. HoldsExactly task (tell h).engine) one (holds_by task ended.journal (tell hand).engine (tell after).engine through (whole.exact_in_each_world zero up));
      gone = λ zero down. only_among ended.hands after (λ h. HoldsNone task (tell h).engine) one (lacks_by task ended.journal (tell hand).engine (tell after).engine through (whole.gone_in_each_world zero down));
    })

-- a call of status 0 isn't refused
pub said_not_zero : (refusal : Refusal) (found : Option Refusal) (status : ℕ) → IsSaid refusal found → status ≡ status_of found → status ≡ 0 → ⊥
said_not_zero refusal found status h e z =
    let none : found ≡ None = not_refused found status e z in
    let is : IsSaid refusal None = subst (IsSaid refusal) none h in cc is

-- a fact on what the project that was asked for declares, as the files tell it later, is one on the task that the words ask for
pub task_by : (words : List (List ℕ)) (env : Variables) (cwd : List ℕ) (told later : Option Contents) (workers first : ℕ) (aim : Aim) (asked : Asked) (Fact : Task → Type 0) → later ≡ told
    → command_of words env ≡ Some asked.options.command → aim_for asked.options.command ≡ Some aim
    → IfSome told (λ contents. MeansAs (meaning words env cwd contents) (Ok asked)) → IsSpelled words env cwd told asked.loaded
    → ForDeclared later asked.options.command asked.loaded (λ declared. Fact (task_of declared aim (limits_of workers (options_for asked.options.command) first))) → ForTask workers words env cwd told first Fact
task_by words env cwd told later workers first aim asked Fact same is runs means spelled fact =
    rw is (rw runs (for_project words env cwd told asked (λ p. ForDeclared told asked.options.command p (λ declared. Fact (task_of declared aim (limits_of workers (options_for asked.options.command) first)))) means spelled
    (subst (λ (t : Option Contents). ForDeclared t asked.options.command asked.loaded (λ declared. Fact (task_of declared aim (limits_of workers (options_for asked.options.command) first)))) same fact)))

-- what a command's run is for, by the call that found it
pub aims : (command : Command) (found : Option Aim) (aim : Aim) → found ≡ aim_for command → found ≡ Some aim → aim_for command ≡ Some aim
aims command found aim finds e = sym finds ∙ e

-- a fact within the limits that the only hand's first reading sets is one within those that all hands' do
pub within : {H : Type 0} (clock : H → Clock) (options : RunOptions) (hands : List H) (after : H) (Fact : RunLimits → Type 0) → hands ≡ after ∷ []
    → Fact (limits_of 1 options (clock after).first) → Fact (limits_of 1 options (first_reading clock hands))
within clock options hands after Fact one fact = subst (λ (hs : List _). Fact (limits_of 1 options (first_reading clock hs))) (sym one) fact

-- what the words' run is for, by the calls that found it
pub asked : (words : List (List ℕ)) (env : Variables) (command : Command) (found : Option Aim) (aim : Aim) → command_of words env ≡ Some command → found ≡ aim_for command → found ≡ Some aim
    → aim_asked (command_of words env) ≡ Some aim
asked words env command found aim is finds e = ap aim_asked is ∙ (sym finds ∙ e)

-- words whose command runs nothing, by the calls that found that
pub unasked : (words : List (List ℕ)) (env : Variables) (command : Command) (found : Option Aim) → command_of words env ≡ Some command → found ≡ aim_for command → found ≡ None
    → aim_asked (command_of words env) ≡ None
unasked words env command found is finds e = ap aim_asked is ∙ (sym finds ∙ e)

-- a fact on what a run is for holds where nothing is run
pub idle : (words : List (List ℕ)) (env : Variables) (Fact : Aim → Type 0) → aim_asked (command_of words env) ≡ None → IfRuns words env Fact
idle words env Fact none = subst (λ (aim : Option Aim). IfSome aim Fact) (sym none) tt
