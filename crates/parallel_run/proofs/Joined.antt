-- What a run leaves that its workers left.
use Rattle.std.proofs.Common.{◌≡◌, ◌⊎◌, ℕ, ◌+◌, ◌<◌, ◌≤◌, Bool, true, false, List, [], ◌∷◌, ◌++◌, Option, None, Some, if◌then◌else◌, length, reverse, refl, sym, ap, ◌∙◌, subst, inl, inr, arith}
use Rattle.std.proofs.lemmas.Bool.{ne_eqb}
use Rattle.std.specs.Prelude.{◌==◌, slice_get}
use Rattle.engine_types.specs.declared.Aim.{Aim}
use Rattle.engine_types.specs.declared.Declared.{Declared}
use Rattle.engine_types.specs.declared.Entry.{Entry}
use Rattle.engine_types.specs.declared.Exchange.{Exchange}
use Rattle.engine_types.specs.declared.Observed.{Observed}
use Rattle.engine_types.specs.declared.Plan.{Plan}
use Rattle.engine_types.specs.declared.RunLimits.{RunLimits}
use Rattle.engine_types.specs.declared.Seen.{Seen}
use Rattle.engine_types.specs.declared.SeenEnd.{SeenEnd}
use Rattle.journal_laws.specs.Courses.{Course, first_seen, setup_of}
use Rattle.journal_laws.specs.Laws.{IsLegalRun}
use Rattle.ledger_core.specs.Beginning.{MayBegin, begun, run_of}
use Rattle.ledger_run.proofs.Stepping.{grows-append}
use Rattle.ledger_run.specs.Tellings.{Telling, account_in}
use Rattle.ledger_run.specs.Timing.{late_by, readings_for}
use Rattle.ledger_run.specs.Timing as of_worker
use Rattle.ledger_run.specs.Works.{GoesOn}
use Rattle.observe_project.specs.Exchanges.{HasCauseOfEnd}
use Rattle.outside_api.proofs.Accounts.{caused-append}
use Rattle.outside_api.specs.Accounts.{Account, AreCaused}
use Rattle.outside_api.specs.Clock.{Clock, new_clock}
use Rattle.parallel_run.specs.Together.{HasRun}
use Rattle.project_run.proofs.Joining.{seen_after}
use Rattle.project_run.proofs.Timed.{reads_first, run_timed}
use Rattle.project_run.specs.Opening.{Opens}
use Rattle.project_run.specs.Options.{bounded, clock_begun}
use Rattle.project_run.specs.Timing.{IsTimed, run_readings}
use Rattle.project_run.specs.Whole.{IsCaused, task_of}
use Rattle.project_run.specs.declared.opening.Opening.{Opening}
use Rattle.run_ends.proofs.Leaving.{left_ends}
use Rattle.run_model.specs.Ending.{EveryWorkerLeft, IsRunOver}
use Rattle.run_model.specs.Journals.{Setup, seen_in}
use Rattle.run_model.specs.Legal.{IsLegal, Saw}
use Rattle.run_model.specs.Logs.{GrowsBy, asks_unstopped, exchanges_of}
use Rattle.run_model.specs.Plans.{basis_of}
use Rattle.run_model.specs.Rolling.{run_actions}
use Rattle.run_model.specs.Runs.{IsLeftByAll, IsRun, Task, run_exchanges, run_seen, run_setup}
use Rattle.worker_pool.specs.Crew.{EachPair, HasDone}
use Rattle.worker_pool.specs.Seats.{IsTimedBy}

-- a worker other than 0 reads its clock as often as its loop does
pub readings_else : (deadline : Option ℕ) (w asks : ℕ) → (w == 0) ≡ false → readings_for deadline asks ≡ run_readings deadline w asks
readings_else None w asks other = refl
readings_else (Some d) w asks other = rw other refl

-- the first worker's clock in the words of its loop
first_timed : (deadline : Option ℕ) (past : List Entry) (old new : Clock) → IsTimedBy 0 deadline past old new → of_worker.IsTimed deadline past old new
first_timed deadline past old new t = record {
  looks = t.looks;
  stops = t.stops;
  paused = t.paused;
  readings = t.readings;
  first = t.first;
  place = t.place;
  late = t.late;
}

module _ (declared : Declared) (aim : Aim) (bounds limits : RunLimits) (observed : Observed) (plan : Plan) (journal : List Entry) (clock : Clock) (before mid now : Telling)
    (unused : before.clock ≡ new_clock) (read : clock ≡ clock_begun bounds.deadline (length before.log) clock.first) (bound : limits ≡ bounded aim bounds)
    (may : MayBegin declared observed plan limits)
    (opens : Opens declared aim (Opening.Planned observed plan) (record before { clock = clock }) mid)
    (seen : Seen) (good : observed.end ≡ SeenEnd.Good seen) (actions : plan.actions ≡ run_actions (basis_of declared seen aim))
    (more : GoesOn (Entry.Seen observed ∷ []) journal)
    (stays : (a : Aim) → IsLegalRun a (begun declared observed plan limits) → IsLegalRun a (run_of declared plan limits journal))
    (everyone : EveryWorkerLeft (setup_of (run_of declared plan limits journal)) (reverse journal))
    (done : HasDone 0 limits.deadline (begun declared observed plan limits) (run_of declared plan limits journal) mid now) where
  abbrev old : Course
  old = begun declared observed plan limits

  abbrev new : Course
  new = run_of declared plan limits journal

  abbrev task : Task
  task = task_of declared aim bounds

  -- its clock, and so its limits
  deadline : limits.deadline ≡ bounds.deadline
  deadline = ap (λ (l : RunLimits). l.deadline) bound

  timed : of_worker.IsTimed bounds.deadline (reverse journal) clock now.clock
  timed = subst (λ (c : Clock). of_worker.IsTimed bounds.deadline (reverse journal) c now.clock) opens.timed
      (subst (λ (d : Option ℕ). of_worker.IsTimed d (reverse journal) mid.clock now.clock) deadline (first_timed limits.deadline (reverse journal) mid.clock now.clock done.timed))

  pub limits_are : bounded aim bounds ≡ limits
  limits_are = sym bound

  -- what it is of
  saw : Saw observed.end (first_seen (Entry.Seen observed ∷ []))
  saw = rw good refl

  legal : IsLegalRun aim new
  legal = stays aim (tt, (refl, opens.observed, saw))

  starts : journal ≡ Entry.Seen observed ∷ more.0
  starts = more.1

  seen_before : seen_in (Entry.Seen observed ∷ []) ≡ Some seen
  seen_before = rw good refl

  seen_last : seen_in (reverse journal) ≡ Some seen
  seen_last = seen_after aim (setup_of new) (Entry.Seen observed ∷ []) journal seen more legal seen_before

  saw_last : run_seen journal ≡ seen
  saw_last = rw seen_last refl

  first_one : first_seen (Entry.Seen observed ∷ more.0) ≡ seen
  first_one = rw good refl

  saw_first : first_seen journal ≡ seen
  saw_first = ap first_seen starts ∙ first_one

  pub same_setup : setup_of new ≡ run_setup task journal
  same_setup = rw (saw_first, saw_last, actions, limits_are) refl

  -- its end
  over : IsRunOver (setup_of new) (reverse journal)
  over = left_ends aim (setup_of new) (reverse journal) may.some_worker may.whole may.orderly legal everyone

  pub run : IsRun task journal
  run = record {
    legal = subst (λ (setup : Setup). IsLegal aim setup (reverse journal)) same_setup legal;
    over = inr (subst (λ (setup : Setup). IsRunOver setup (reverse journal)) same_setup over);
  }

  pub left : IsLeftByAll task journal
  left well = subst (λ (setup : Setup). EveryWorkerLeft setup (reverse journal)) same_setup everyone

  pub begins : (entry : Entry) × (rest : List Entry) × (journal ≡ entry ∷ rest)
  begins = (Entry.Seen observed, more.0, starts)

  -- what the first worker's hand did
  are_first : run_exchanges task journal 0 ≡ observed.exchanges ++ done.made
  are_first = ap (λ (setup : Setup). exchanges_of setup (reverse journal) 0) (sym same_setup) ∙ done.are

  caused_first : IsCaused task journal 0 (account_in before) (account_in now)
  caused_first = record {
    exchanges = subst (λ (l : List Exchange). AreCaused l (account_in before) (account_in now)) (sym are_first)
        (caused-append observed.exchanges done.made (account_in before) (account_in mid) (account_in now) opens.caused done.caused);
    observed = λ zero other e. at other e;
  }
    where
      at : (other : Observed) → slice_get journal 0 ≡ Some (Entry.Seen other) → HasCauseOfEnd now.heard before.faults now.faults other.end
      at other e =
          let same : Some (Entry.Seen observed) ≡ Some (Entry.Seen other) = rw starts at e in
          let one : observed ≡ other = cc same in
          subst (λ (o : Observed). HasCauseOfEnd now.heard before.faults now.faults o.end) one
          (subst (λ (end : SeenEnd). HasCauseOfEnd now.heard before.faults now.faults end) (sym good) tt)

  pub first_ran : HasRun task journal 0 before now
  first_ran = record {
    log = subst (λ (l : List Exchange). GrowsBy l before.log now.log) (sym are_first)
        (grows-append observed.exchanges done.made before.log mid.log now.log opens.log done.log);
    caused = caused_first;
    timed = run_timed task journal (length before.log) before.clock clock now.clock unused read timed;
    read_first = λ zero. reads_first bounds.deadline (length before.log) clock now.clock read timed.place;
  }

  -- what another worker's hand did
  task_deadline : limits.deadline ≡ task.limits.deadline
  task_deadline = sym (ap (λ (l : RunLimits). l.deadline) limits_are)

  other_ran : (w : ℕ) (s t : Telling) → (w == 0) ≡ false → HasDone w limits.deadline old new s t → HasRun task journal w s t
  other_ran w s t other did = record {
    log = subst (λ (l : List Exchange). GrowsBy l s.log t.log) (sym are) did.log;
    caused = record {
      exchanges = subst (λ (l : List Exchange). AreCaused l (account_in s) (account_in t)) (sym are) did.caused;
      observed = λ zero first e. absurd (never zero);
    };
    timed = record {
      looks = did.timed.looks;
      stops = did.timed.stops;
      paused = did.timed.paused;
      readings = did.timed.readings ∙ ap (λ (n : ℕ). s.clock.readings + n)
          (readings_else limits.deadline w (asks_unstopped (reverse journal) w) other ∙ ap (λ (d : Option ℕ). run_readings d w (asks_unstopped (reverse journal) w)) task_deadline);
      late = did.timed.late ∙ ap (λ (d : Option ℕ). late_by d (asks_unstopped (reverse journal) w) t.clock.last) task_deadline;
    };
    read_first = λ zero. absurd (never zero);
  }
    where
      none : exchanges_of (setup_of old) (Entry.Seen observed ∷ []) w ≡ []
      none = rw other refl

      are : run_exchanges task journal w ≡ did.made
      are = ap (λ (setup : Setup). exchanges_of setup (reverse journal) w) (sym same_setup) ∙ did.are ∙ ap (λ (l : List Exchange). l ++ did.made) none

      never : w ≡ 0 → ⊥
      never zero = let bad : (0 == 0) ≡ false = ap (λ (n : ℕ). n == 0) (sym zero) ∙ other in cc bad

  pub others_ran : {H : Type 0} (tell : H → Telling) (n : ℕ) (xs ys : List H) → 0 < n → EachPair (λ w x y. HasDone w limits.deadline old new (tell x) (tell y)) n xs ys
      → EachPair (λ w x y. HasRun task journal w (tell x) (tell y)) n xs ys
  others_ran tell n [] [] some each = tt
  others_ran tell n [] (y ∷ ys) some each = absurd each
  others_ran tell n (x ∷ xs) [] some each = absurd each
  others_ran tell n (x ∷ xs) (y ∷ ys) some each =
      (other_ran n (tell x) (tell y) (ne_eqb n 0 (λ z. absurd (omega (arith, some, z)))) each.0, others_ran tell (n + 1) xs ys (omega arith) each.1)
