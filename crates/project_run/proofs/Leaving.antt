-- What a run leaves, from how it opened and how its plan was carried out.
use Rattle.std.proofs.Common.{◌≡◌, ◌⊎◌, ℕ, ◌<◌, Bool, true, false, List, [], ◌∷◌, ◌++◌, Option, None, Some, reverse, refl, sym, ap, ◌∙◌, subst, inl, inr, arith}
use Rattle.std.specs.Prelude.{drop, length, slice_get}
use Rattle.engine_types.specs.declared.Action.{Action}
use Rattle.engine_types.specs.declared.Aim.{Aim}
use Rattle.engine_types.specs.declared.Declared.{Declared}
use Rattle.engine_types.specs.declared.Entry.{Entry}
use Rattle.engine_types.specs.declared.Exchange.{Exchange}
use Rattle.engine_types.specs.declared.Observed.{Observed}
use Rattle.engine_types.specs.declared.Plan.{Plan}
use Rattle.engine_types.specs.declared.RunFault.{RunFault}
use Rattle.engine_types.specs.declared.RunLimits.{RunLimits}
use Rattle.engine_types.specs.declared.Seen.{Seen}
use Rattle.engine_types.specs.declared.SeenEnd.{SeenEnd}
use Rattle.engine_types.specs.declared.SeenFault.{SeenFault}
use Rattle.journal_laws.specs.Courses.{Course, first_seen, setup_of}
use Rattle.journal_laws.specs.Laws.{IsLegalRun}
use Rattle.ledger_core.specs.Beginning.{MayBegin, begun, run_of}
use Rattle.ledger_run.proofs.Stepping.{exchanges-append, exchanges_are, grows-append, joined, told-append}
use Rattle.ledger_run.specs.Steps.{exchanges_since, steps_of, steps_since}
use Rattle.ledger_run.specs.Tellings.{Telling, account_in}
use Rattle.ledger_run.specs.Timing as of_worker
use Rattle.observe_project.specs.Exchanges.{HasCauseOfEnd}
use Rattle.outside_api.proofs.Accounts.{caused-append}
use Rattle.outside_api.specs.Accounts.{Account, AreCaused}
use Rattle.outside_api.specs.Clock.{Clock, new_clock}
use Rattle.plan_core.specs.Order.{HasNoCycle}
use Rattle.project_run.proofs.Beginning.{may_begin}
use Rattle.project_run.proofs.Joining.{seen_after}
use Rattle.project_run.proofs.Timed.{reads_first, run_timed, still_timed}
use Rattle.project_run.specs.Carrying.{IsCarriedOut, IsUnbegun, IsWorked, come_to, cut_short}
use Rattle.project_run.specs.Opening.{HasEndedBadly, Opens}
use Rattle.project_run.specs.Options.{bounded, clock_begun}
use Rattle.project_run.specs.Timing.{IsTimed}
use Rattle.project_run.specs.Whole.{IsCaused, Leaves, run_steps, task_of}
use Rattle.project_run.specs.declared.opening.Opening.{Opening}
use Rattle.run_ends.proofs.Leaving.{left_ends}
use Rattle.run_laws.specs.Orders.{NeedsDependencies}
use Rattle.run_model.specs.Ending.{EveryWorkerLeft, IsRunOver, first_fault, is_seen_bad}
use Rattle.run_model.specs.EngineRules.{Step, TellsSteps, exchanges_in, unpaused}
use Rattle.run_model.specs.Journals.{Setup, has_left, seen_in}
use Rattle.run_model.specs.Legal.{IsLegal, IsObserved, Saw, seen_end, whole_end}
use Rattle.run_model.specs.Lines.{report_text}
use Rattle.run_model.specs.Logs.{GrowsBy, exchanges_of}
use Rattle.run_model.specs.Observation.{Asks, Ends, Onward, Strays, is_asked, observed as observed_by}
use Rattle.run_model.specs.Plans.{HasSmallNumbers, IsWhole, basis_of}
use Rattle.run_model.specs.Rolling.{run_actions}
use Rattle.run_model.specs.Runs.{IsLeftByAll, IsRun, Task, run_exchanges, run_fault, run_report, run_seen, run_setup}
use Rattle.world_laws.proofs.ToldRuns.{unpaused_are}

-- a run that ended with its observation
module _ (declared : Declared) (aim : Aim) (bounds : RunLimits) (observed : Observed) (clock : Clock) (before now : Telling)
    (unused : before.clock ≡ new_clock) (read : clock ≡ clock_begun bounds.deadline (length before.log) clock.first)
    (opens : Opens declared aim (Opening.Ended observed) (record before { clock = clock }) now) where
  bad : HasEndedBadly observed
  bad = opens.follows

  bad_run : IsRun (task_of declared aim bounds) (Entry.Seen observed ∷ [])
  bad_run = record {
    legal = (tt, (refl, opens.observed, rw bad.1 tt));
    over = inl (rw bad.1 refl);
  }

  never_good : is_seen_bad (Entry.Seen observed ∷ []) ≡ false → ⊥
  never_good good = let wrong : true ≡ false = rw bad.1 at good in cc wrong

  bad_caused : IsCaused (task_of declared aim bounds) (Entry.Seen observed ∷ []) 0 (account_in before) (account_in now)
  bad_caused = record {
    exchanges = opens.caused;
    observed = λ first other e. let same : Some (Entry.Seen observed) ≡ Some (Entry.Seen other) = e in
        let one : observed ≡ other = cc same in subst (λ (o : Observed). HasCauseOfEnd now.heard before.faults now.faults o.end) one opens.cause;
  }

  bad_timed : IsTimed (task_of declared aim bounds) (Entry.Seen observed ∷ []) 0 before.clock now.clock
  bad_timed = run_timed (task_of declared aim bounds) (Entry.Seen observed ∷ []) (length before.log) before.clock clock now.clock unused read
      (subst (λ (c : Clock). of_worker.IsTimed bounds.deadline (Entry.Seen observed ∷ []) clock c) (sym opens.timed) (still_timed bounds.deadline observed clock))

  pub leaves_badly : Leaves (task_of declared aim bounds) (Entry.Seen observed ∷ []) before now
  leaves_badly = record {
    run = bad_run;
    left = λ good. absurd (never_good good);
    begun = (Entry.Seen observed, [], refl);
    log = opens.log;
    told = opens.told;
    caused = bad_caused;
    timed = bad_timed;
    read_first = reads_first bounds.deadline (length before.log) clock now.clock read (λ place e. ap (λ (c : Clock). c.place) opens.timed ∙ e);
  }

-- exchanges of which an observation was made may also have ended for want of memory
asked_so : (declared : Declared) (aim : Aim) (exchanges : List Exchange) (end : SeenEnd) → seen_end declared aim exchanges ≡ Some end
    → is_asked (observed_by declared aim.purpose exchanges) ≡ true
asked_so declared aim exchanges end = at (observed_by declared aim.purpose exchanges) refl
  where
    at : (onward : Onward) → observed_by declared aim.purpose exchanges ≡ onward → seen_end declared aim exchanges ≡ Some end → is_asked (observed_by declared aim.purpose exchanges) ≡ true
    at (Ends e) is found = rw is refl
    at (Asks request) is found = rw is refl
    at Strays is found =
        let none : seen_end declared aim exchanges ≡ None = rw is refl in
        let wrong : None ≡ Some end = sym none ∙ found in absurd (cc wrong)

short_observed : (declared : Declared) (aim : Aim) (observed : Observed) → IsObserved declared aim observed → IsObserved declared aim (cut_short observed.exchanges)
short_observed declared aim observed (inl e) = inr (refl, asked_so declared aim observed.exchanges observed.end e)
short_observed declared aim observed (inr m) = inr (refl, m.1)

-- a run that there was no memory to begin has ended with its observation
pub opens_short : (declared : Declared) (aim : Aim) (observed : Observed) (plan : Plan) (before now : Telling) → Opens declared aim (Opening.Planned observed plan) before now
    → Opens declared aim (Opening.Ended (cut_short observed.exchanges)) before now
opens_short declared aim observed plan before now opens = record {
  observed = short_observed declared aim observed opens.observed;
  follows = (SeenFault.Memory, refl);
  log = opens.log;
  told = opens.told;
  caused = opens.caused;
  cause = tt;
  timed = opens.timed;
}

-- a run whose worker left
module _ (declared : Declared) (aim : Aim) (bounds limits : RunLimits) (observed : Observed) (plan : Plan) (journal : List Entry) (clock : Clock) (before mid now : Telling)
    (unused : before.clock ≡ new_clock) (read : clock ≡ clock_begun bounds.deadline (length before.log) clock.first) (bound : limits ≡ bounded aim bounds) (alone : bounds.workers ≡ 1)
    (may : MayBegin declared observed plan limits)
    (opens : Opens declared aim (Opening.Planned observed plan) (record before { clock = clock }) mid)
    (seen : Seen) (good : observed.end ≡ SeenEnd.Good seen) (actions : plan.actions ≡ run_actions (basis_of declared seen aim))
    (worked : IsWorked (begun declared observed plan limits) journal mid now) where
  abbrev old : Course
  old = begun declared observed plan limits

  abbrev new : Course
  new = run_of declared plan limits journal

  abbrev task : Task
  task = task_of declared aim bounds

  -- its clock
  at_limits : of_worker.IsTimed bounds.deadline (reverse journal) mid.clock now.clock
  at_limits = subst (λ (deadline : Option ℕ). of_worker.IsTimed deadline (reverse journal) mid.clock now.clock) (ap (λ (l : RunLimits). l.deadline) bound) worked.timed

  timed : of_worker.IsTimed bounds.deadline (reverse journal) clock now.clock
  timed = subst (λ (c : Clock). of_worker.IsTimed bounds.deadline (reverse journal) c now.clock) opens.timed at_limits

  pub first_stays : 0 < clock.readings → now.clock.first ≡ clock.first
  first_stays = timed.first

  limits_are : bounded aim bounds ≡ limits
  limits_are = sym bound

  -- what it is of
  saw : Saw observed.end (first_seen (Entry.Seen observed ∷ []))
  saw = rw good refl

  legal : IsLegalRun aim new
  legal = worked.legal aim (tt, (refl, opens.observed, saw))

  starts : journal ≡ Entry.Seen observed ∷ worked.more.0
  starts = worked.more.1

  seen_before : seen_in (Entry.Seen observed ∷ []) ≡ Some seen
  seen_before = rw good refl

  seen_last : seen_in (reverse journal) ≡ Some seen
  seen_last = seen_after aim (setup_of new) (Entry.Seen observed ∷ []) journal seen worked.more legal seen_before

  saw_last : run_seen journal ≡ seen
  saw_last = rw seen_last refl

  first_one : first_seen (Entry.Seen observed ∷ worked.more.0) ≡ seen
  first_one = rw good refl

  saw_first : first_seen journal ≡ seen
  saw_first = ap first_seen starts ∙ first_one

  pub same_setup : setup_of new ≡ run_setup task journal
  same_setup = rw (saw_first, saw_last, actions, limits_are) refl

  -- its end
  one : limits.workers ≡ 1
  one = ap (λ (l : RunLimits). l.workers) bound ∙ alone

  gone : (w : ℕ) → w < 1 → has_left (reverse journal) w ≡ true
  gone w below = let first : w ≡ 0 = omega (arith, below) in rw first worked.left

  everyone : EveryWorkerLeft (setup_of new) (reverse journal)
  everyone w below = let n = one in gone w (omega (arith, below, n))

  over : IsRunOver (setup_of new) (reverse journal)
  over = left_ends aim (setup_of new) (reverse journal) may.some_worker may.whole may.orderly legal everyone

  run : IsRun task journal
  run = record {
    legal = subst (λ (setup : Setup). IsLegal aim setup (reverse journal)) same_setup legal;
    over = inr (subst (λ (setup : Setup). IsRunOver setup (reverse journal)) same_setup over);
  }

  left : IsLeftByAll task journal
  left well w below = let few : w < bounds.workers = below in gone w (omega (arith, few, alone))

  -- what its hand did
  steps_joined : steps_of (setup_of new) (reverse journal) 0 ≡ unpaused observed.exchanges ++ steps_since old new
  steps_joined = subst (λ (js : List Entry). steps_of (setup_of new) (reverse js) 0
      ≡ unpaused observed.exchanges ++ drop (length (unpaused observed.exchanges)) (steps_of (setup_of new) (reverse js) 0)) (sym starts)
      (joined (setup_of new) (Entry.Seen observed ∷ []) worked.more.0 0)

  are_steps : run_steps task journal 0 ≡ unpaused observed.exchanges ++ steps_since old new
  are_steps = ap (λ (setup : Setup). steps_of setup (reverse journal) 0) (sym same_setup) ∙ steps_joined

  are_exchanges : run_exchanges task journal 0 ≡ observed.exchanges ++ exchanges_since old new
  are_exchanges =
      sym (exchanges_are (run_setup task journal) (reverse journal) 0) ∙ ap exchanges_in are_steps
      ∙ exchanges-append (unpaused observed.exchanges) (steps_since old new)
      ∙ ap (λ (l : List Exchange). l ++ exchanges_in (steps_since old new)) (unpaused_are observed.exchanges)
      ∙ ap (λ (l : List Exchange). observed.exchanges ++ l) worked.steps

  caused : IsCaused task journal 0 (account_in before) (account_in now)
  caused = record {
    exchanges = subst (λ (l : List Exchange). AreCaused l (account_in before) (account_in now)) (sym are_exchanges)
        (caused-append observed.exchanges (exchanges_since old new) (account_in before) (account_in mid) (account_in now) opens.caused worked.caused);
    observed = λ first other e. at other e;
  }
    where
      at : (other : Observed) → slice_get journal 0 ≡ Some (Entry.Seen other) → HasCauseOfEnd now.heard before.faults now.faults other.end
      at other e =
          let same : Some (Entry.Seen observed) ≡ Some (Entry.Seen other) = rw starts at e in
          let one : observed ≡ other = cc same in
          subst (λ (o : Observed). HasCauseOfEnd now.heard before.faults now.faults o.end) one
          (subst (λ (end : SeenEnd). HasCauseOfEnd now.heard before.faults now.faults end) (sym good) tt)

  pub leaves_well : Leaves task journal before now
  leaves_well = record {
    run = run;
    left = left;
    begun = (Entry.Seen observed, worked.more.0, starts);
    log = subst (λ (l : List Exchange). GrowsBy l before.log now.log) (sym are_exchanges)
        (grows-append observed.exchanges (exchanges_since old new) before.log mid.log now.log opens.log worked.log);
    told = subst (λ (l : List Step). TellsSteps l before.engine now.engine) (sym are_steps)
        (told-append (unpaused observed.exchanges) (steps_since old new) before.engine mid.engine now.engine opens.told worked.told);
    caused = caused;
    timed = run_timed task journal (length before.log) before.clock clock now.clock unused read timed;
    read_first = reads_first bounds.deadline (length before.log) clock now.clock read timed.place;
  }

-- a run whose plan was carried out, or wasn't begun
module _ (declared : Declared) (aim : Aim) (bounds limits : RunLimits) (observed : Observed) (plan : Plan) (journal : List Entry) (clock : Clock) (before mid now : Telling)
    (unused : before.clock ≡ new_clock) (read : clock ≡ clock_begun bounds.deadline (length before.log) clock.first) (bound : limits ≡ bounded aim bounds) (alone : bounds.workers ≡ 1)
    (whole : IsWhole declared) (small : HasSmallNumbers declared) (acyclic : HasNoCycle declared) (needs : NeedsDependencies declared)
    (opens : Opens declared aim (Opening.Planned observed plan) (record before { clock = clock }) mid) where
  pub may : MayBegin declared observed plan limits
  may = may_begin declared aim observed plan bounds limits (record before { clock = clock }) mid whole small acyclic needs opens alone bound

  leaves_short : IsUnbegun observed journal mid now → Leaves (task_of declared aim bounds) journal before now
  leaves_short unbegun = subst (λ (js : List Entry). Leaves (task_of declared aim bounds) js before now) (sym unbegun.only)
      (subst (λ (t : Telling). Leaves (task_of declared aim bounds) (Entry.Seen (cut_short observed.exchanges) ∷ []) before t) (sym unbegun.alone)
      (leaves_badly declared aim bounds (cut_short observed.exchanges) clock before mid unused read (opens_short declared aim observed plan (record before { clock = clock }) mid opens)))

  pub leaves : IsCarriedOut declared observed plan limits journal mid now → Leaves (task_of declared aim bounds) journal before now
  leaves (inl worked) = leaves_well declared aim bounds limits observed plan journal clock before mid now unused read bound alone may opens opens.follows.0 opens.follows.1 opens.follows.2 worked
  leaves (inr unbegun) = leaves_short unbegun

  -- the clock's first reading stays
  pub keeps_first : IsCarriedOut declared observed plan limits journal mid now → 0 < clock.readings → now.clock.first ≡ clock.first
  keeps_first (inl worked) some = first_stays declared aim bounds limits observed plan journal clock before mid now unused read bound alone may opens opens.follows.0 opens.follows.1 opens.follows.2 worked some
  keeps_first (inr unbegun) some = ap (λ (t : Telling). t.clock.first) unbegun.alone ∙ ap (λ (c : Clock). c.first) opens.timed

  -- what is told of it is said of the task
  pub of_task : {X : Type 0} (tell : Setup → List Entry → X) → ((setup other : Setup) → tell setup (Entry.Seen (cut_short observed.exchanges) ∷ []) ≡ tell other (Entry.Seen (cut_short observed.exchanges) ∷ []))
      → IsCarriedOut declared observed plan limits journal mid now
      → tell (setup_of (run_of declared plan limits journal)) (reverse journal) ≡ tell (run_setup (task_of declared aim bounds) journal) (reverse journal)
  of_task tell any (inl worked) = ap (λ (setup : Setup). tell setup (reverse journal))
      (same_setup declared aim bounds limits observed plan journal clock before mid now unused read bound alone may opens opens.follows.0 opens.follows.1 opens.follows.2 worked)
  of_task tell any (inr unbegun) = rw unbegun.only (any (setup_of (run_of declared plan limits (Entry.Seen (cut_short observed.exchanges) ∷ [])))
      (run_setup (task_of declared aim bounds) (Entry.Seen (cut_short observed.exchanges) ∷ [])))

-- a run that had no room for its journal made no exchange
pub nothing_caused : (task : Task) (journal : List Entry) (w : ℕ) (a : Account) → journal ≡ [] → IsCaused task journal w a a
nothing_caused task journal w a e = rw e (record { exchanges = refl; observed = λ first observation f. absurd (cc f) })
