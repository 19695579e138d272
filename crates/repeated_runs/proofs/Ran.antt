-- What a run of new hands leaves, once its report was written.
use Rattle.std.proofs.Common.{◌≡◌, ℕ, Bool, true, false, List, [], Option, Some, None, refl, sym, ◌∙◌, subst, inl, inr}
use Rattle.std.specs.Prelude.{IfSome}
use Rattle.compose_cli.proofs.Ran.{after_origin, after_refused, after_reports, if_begun_in, refused_by, reports_by, status_by, unwritten, went_well}
use Rattle.compose_cli.proofs.Statuses.{not_refused}
use Rattle.compose_cli.specs.Runs.{IsRefusalOf, IsUnbegun, RanAs, Reports, refusal_after}
use Rattle.compose_cli.specs.declared.Ended.{Ended}
use Rattle.engine_types.specs.declared.Declared.{Declared}
use Rattle.engine_types.specs.declared.RunFault.{RunFault}
use Rattle.engine_types.specs.declared.RunLimits.{RunLimits}
use Rattle.ledger_run.specs.Tellings.{Telling}
use Rattle.outside_files.specs.Counts.{Rose}
use Rattle.outside_files.specs.Sinks.{GrewBy}
use Rattle.outside_files.specs.Writing.{Wrote}
use Rattle.project_run.proofs.Exact.{makes_once, rolls_few, spares_agreeing}
use Rattle.project_run.proofs.Sparing.{runs_spare_kept}
use Rattle.project_run.specs.Whole.{IfBegun, IsFault, IsReport}
use Rattle.refusals.specs.Origins.{IsOfRun}
use Rattle.refusals.specs.Statuses.{status_of}
use Rattle.refusals.specs.declared.Refusal.{Refusal}
use Rattle.repeated_runs.proofs.Refusals.{memory_refusal, no_conflict, said_same}
use Rattle.repeated_runs.specs.Hands.{AreNew}
use Rattle.repeated_runs.specs.Onces.{IsLeft, IsRunWith, WritesWhole}
use Rattle.repeated_runs.specs.Running.{RunsNew}
use Rattle.repeated_runs.specs.declared.once.Left.{Left}
use Rattle.run_model.specs.EngineRules.{Among}
use Rattle.run_model.specs.Plans.{HasSmallNumbers, IsWhole}
use Rattle.run_model.specs.Runs.{Task, run_fault, run_report}
use Rattle.world_laws.proofs.ExactWorlds.{exact_in_each_world}
use Rattle.world_laws.proofs.GoneWorlds.{gone_in_each_world}
use Rattle.world_laws.specs.OwnSpecs.{HasOwnSpecs}

-- where no fault is told there is none
no_fault : (expected fault : Option RunFault) → IsFault expected fault → fault ≡ None → expected ≡ None
no_fault expected fault (inl e) n = sym e ∙ n
no_fault expected fault (inr e) n = let bad : Some RunFault.Memory ≡ None = sym e ∙ n in absurd (cc bad)

module _ {H : Type 0} (tell : H → Telling) (task : Task) (ended : Ended H) (report : List ℕ) (fault : Option RunFault) (whole : Bool) (written_old written_new : Option (List ℕ)) (old new : ℕ)
    (told : IsReport (run_report task ended.journal) fault report) (wrote : Wrote whole report written_old written_new old new) (after : ended.refusal ≡ refusal_after fault whole) where
  refused : IsRefusalOf fault old new ended.refusal
  refused = subst (λ (r : Option Refusal). IsRefusalOf fault old new r) (sym after) (after_refused fault whole report written_old written_new old new wrote)

  reports : Reports report ended.refusal written_old written_new old new
  reports = subst (λ (r : Option Refusal). Reports report r written_old written_new old new) (sym after) (after_reports fault whole report written_old written_new old new wrote)

  -- all that a call leaves that ran so
  pub ran_new : IsWhole task.declared → HasSmallNumbers task.declared → HasOwnSpecs task.declared → IfBegun ended.journal (RunsNew tell task ended.journal ended.hands)
      → IfBegun ended.journal (IsFault (run_fault task ended.journal) fault) → ended.status ≡ status_of ended.refusal → IfBegun ended.journal (RanAs tell task ended written_old written_new old new)
  ran_new fits small own runs faults status =
      if_begun_in ended.journal runs (λ inside run.
      let is_fault = inside (IsFault (run_fault task ended.journal) fault) faults in
      let is_refusal = refused_by old new (run_fault task ended.journal) fault ended.refusal ended.refusal is_fault refused (said_same ended.refusal) in
      let well = λ (zero : ended.status ≡ 0). no_fault (run_fault task ended.journal) fault is_fault (went_well fault old new ended.refusal ended.refusal refused (said_same ended.refusal) (not_refused ended.refusal ended.status status zero)) in record {
        legal = run.legal;
        left = run.left;
        hands = run.as_many;
        log = run.log;
        cause = run.cause;
        timed = run.timed;
        read_first = run.read_first;
        run_status = status_by (run_fault task ended.journal) old new ended.refusal ended.status is_refusal status;
        run_fault = is_refusal;
        report = reports_by old new (run_report task ended.journal) report fault ended.refusal ended.refusal written_old written_new told reports refused (said_same ended.refusal);
        kept = λ up. runs_spare_kept task ended.journal up fits.owners run.legal;
        once = λ up. makes_once task ended.journal up fits own run.legal;
        agreeing = λ up. spares_agreeing task ended.journal up fits own run.legal;
        rolls = λ up. rolls_few task ended.journal up fits small run.legal;
        exact_in_each_world = λ zero up first last moves world. exact_in_each_world task ended.journal first last moves up fits own run.legal (well zero) world;
        gone_in_each_world = λ zero down first last moves world. gone_in_each_world task ended.journal first last moves down fits run.legal (well zero) world;
      })

  -- the same with what there is of a run that has no entry
  pub run_with : IsWhole task.declared → HasSmallNumbers task.declared → HasOwnSpecs task.declared → IfBegun ended.journal (RunsNew tell task ended.journal ended.hands)
      → IfBegun ended.journal (IsFault (run_fault task ended.journal) fault) → ended.status ≡ status_of ended.refusal
      → (hands : List H) → AreNew tell hands → (ended.journal ≡ [] → (fault ≡ Some RunFault.Memory) × (ended.hands ≡ hands))
      → IsRunWith tell task ended written_old written_new old new
  run_with fits small own runs faults status hands fresh empty = record {
    origin = subst IsOfRun (sym after) (after_origin fault whole);
    unbegun = λ e. subst IsUnbegun (sym (memory_refusal fault whole ended.refusal after (empty e).0)) tt;
    quiet = λ e. unwritten old new task ended.journal fault report ended.refusal written_old written_new told reports e;
    unsent = λ e hand m. (fresh hand (subst (λ (hs : List H). Among hs hand) (empty e).1 m)).unused;
    ran = ran_new fits small own runs faults status;
    status = status;
  }

  at_true : (w : Bool) → w ≡ true → Wrote w report written_old written_new old new → GrewBy written_old report written_new
  at_true true e h = h
  at_true false e h = absurd (cc e)

  at_false : (w : Bool) → w ≡ false → Wrote w report written_old written_new old new → Rose old new
  at_false false e h = h.0
  at_false true e h = absurd (cc e)

  -- a report that was written whole is the run's, unless memory was wanted
  pub writes_whole : whole ≡ true → WritesWhole task ended written_old written_new
  writes_whole is = by told
    where
      by : IsReport (run_report task ended.journal) fault report → WritesWhole task ended written_old written_new
      by (inl same) = inr (subst (λ (text : List ℕ). GrewBy written_old text written_new) same (at_true whole is wrote))
      by (inr none) = inl (no_conflict ended.refusal (memory_refusal fault whole ended.refusal after none.1))

  pub broke : whole ≡ false → Rose old new
  broke is = at_false whole is wrote

-- what is left of a run, by what it handed back
pub is_left : (declared : Declared) (back : Option Declared) (left : Option Left) (limits bounds : RunLimits) → (back ≡ None → left ≡ None)
    → IfSome back (λ same. left ≡ Some (record { declared = same; limits = limits })) → IfSome back (λ same. same ≡ declared) → limits ≡ bounds → IfSome left (IsLeft declared bounds)
is_left declared None left limits bounds none some same bound = subst (λ (l : Option Left). IfSome l (IsLeft declared bounds)) (sym (none refl)) tt
is_left declared (Some d) left limits bounds none some same bound =
    subst (λ (l : Option Left). IfSome l (IsLeft declared bounds)) (sym some) (record { declares = same; limited = bound })

-- where nothing is left memory was wanted
pub none_left : (back : Option Declared) (left : Option Left) (limits : RunLimits) → IfSome back (λ same. left ≡ Some (record { declared = same; limits = limits })) → left ≡ None → back ≡ None
none_left None left limits some none = refl
none_left (Some d) left limits some none = let bad : Some (record { declared = d; limits = limits }) ≡ None = sym some ∙ none in absurd (cc bad)
