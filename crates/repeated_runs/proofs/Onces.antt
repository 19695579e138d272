-- One run of a call, with its dials.
use Rattle.std.proofs.Common.{◌≡◌, ℕ, List, [], None, Some, ◌+◌, length, refl, sym, ap, ◌∙◌, subst, inl, arith}
use Rattle.std.specs.Prelude.{IfSome, Option}
use Rattle.compose_cli.proofs.Dialled.{of_run, unplaced}
use Rattle.compose_cli.specs.Dialling.{Dials}
use Rattle.compose_cli.specs.Ends.{CountsHands}
use Rattle.compose_cli.specs.Runs.{IsUnbegun, RanAs}
use Rattle.compose_cli.specs.declared.Ended.{Ended}
use Rattle.engine_types.specs.declared.Entry.{Entry}
use Rattle.ledger_run.specs.Tellings.{Telling}
use Rattle.outside_api.specs.declared.dial.Dial.{Dial}
use Rattle.outside_files.specs.Counts.{Rose}
use Rattle.project_run.specs.Whole.{IfBegun}
use Rattle.refusals.specs.Origins.{IsOfLoading}
use Rattle.refusals.specs.Statuses.{status_of}
use Rattle.refusals.specs.declared.Refusal.{Refusal}
use Rattle.repeated_runs.proofs.Dials.{dials_run}
use Rattle.repeated_runs.proofs.Refusals.{no_loading, plug_fault, undialled_conflict, undialled_loading, undialled_unbegun}
use Rattle.repeated_runs.specs.Attempts.{IsOneRun}
use Rattle.repeated_runs.specs.Conflicts.{conflict_of}
use Rattle.repeated_runs.specs.Dials.{refusal_of}
use Rattle.repeated_runs.specs.Hands.{AreNew}
use Rattle.repeated_runs.specs.Moments.{Moment}
use Rattle.repeated_runs.specs.Onces.{IsRunWith, WritesWhole}
use Rattle.repeated_runs.specs.declared.dialling.DialFault.{DialFault}
use Rattle.repeated_runs.specs.declared.once.Left.{Left}
use Rattle.run_model.specs.EngineRules.{Among}
use Rattle.run_model.specs.Runs.{Task}

-- no hand is counted yet
counts_none : (count : Option ℕ) (n : ℕ) → n ≡ 0 → CountsHands count count n
counts_none None n none = refl
counts_none (Some k) n none = let same : k ≡ k + n = omega (arith, none) in ap (λ (c : ℕ). Some c) same

module _ {H : Type 0} (tell : H → Telling) (Place : ℕ → Dial → Type 0) (workers : ℕ) (task : Task) (ended : Ended H) where
  -- a run whose hands were all dialled
  pub run_dialled : (hands : List H) (old new : Moment) → length ended.hands ≡ length hands → Dials Place workers old.dials new.dials (length hands) None → CountsHands old.dialled new.dialled (length hands)
      → IsRunWith tell task ended old.written new.written old.out_faults new.out_faults → IsOneRun tell Place workers task ended old new
  run_dialled hands old new many dials counts run = record {
    dials = dials_run Place workers old.dials new.dials (length ended.hands) ended.refusal run.origin (subst (λ (n : ℕ). Dials Place workers old.dials new.dials n None) (sym many) dials);
    dialled = subst (λ (n : ℕ). CountsHands old.dialled new.dialled n) (sym many) counts;
    counted = λ e. absurd (of_run ended.refusal run.origin e);
    origin = no_loading ended.refusal run.origin;
    unmade = λ e. absurd (of_run ended.refusal run.origin e);
    unbegun = run.unbegun;
    quiet = run.quiet;
    unsent = run.unsent;
    ran = run.ran;
    status = run.status;
  }

  -- one of which some hand wasn't made
  pub run_undialled : (hands : List H) (fault : DialFault) (old new : Moment) → ended.journal ≡ [] → ended.hands ≡ hands → ended.refusal ≡ Some (refusal_of fault) → ended.status ≡ status_of ended.refusal
      → Dials Place workers old.dials new.dials (length hands) (Some (refusal_of fault)) → CountsHands old.dialled new.dialled (length hands) → AreNew tell hands
      → (fault ≡ DialFault.Plug → Rose old.plug_faults new.plug_faults) → new.written ≡ old.written → IsOneRun tell Place workers task ended old new
  run_undialled hands fault old new empty are is status dials counts fresh rose same = record {
    dials = subst (λ (r : Option Refusal). Dials Place workers old.dials new.dials (length ended.hands) r) (sym is) (subst (λ (hs : List H). Dials Place workers old.dials new.dials (length hs) (Some (refusal_of fault))) (sym are) dials);
    dialled = subst (λ (hs : List H). CountsHands old.dialled new.dialled (length hs)) (sym are) counts;
    counted = λ e. rose (plug_fault fault (sym is ∙ e));
    origin = λ h. undialled_loading fault (subst IsOfLoading is h);
    unmade = λ e. (empty, λ hand m. (fresh hand (subst (λ (hs : List H). Among hs hand) are m)).unused);
    unbegun = λ e. subst IsUnbegun (sym is) (undialled_unbegun fault);
    quiet = λ e. same;
    unsent = λ e hand m. (fresh hand (subst (λ (hs : List H). Among hs hand) are m)).unused;
    ran = subst (λ (journal : List Entry). IfBegun journal (RanAs tell task ended old.written new.written old.out_faults new.out_faults)) (sym empty) tt;
    status = status;
  }

  -- one for which there was no memory before its dials
  pub run_unplaced : (now : Moment) → ended.journal ≡ [] → ended.hands ≡ [] → ended.refusal ≡ Some Refusal.Memory → ended.status ≡ status_of ended.refusal → IsOneRun tell Place workers task ended now now
  run_unplaced now empty none is status = run_undialled [] DialFault.Memory now now empty none is status
      (unplaced {H = H} Place workers now.dials [] (Some Refusal.Memory) refl tt) (counts_none now.dialled 0 refl) (λ hand m. absurd m) (λ e. absurd (cc e)) refl

  pub written_without : (fault : DialFault) (old new : Option (List ℕ)) → ended.refusal ≡ Some (refusal_of fault) → WritesWhole task ended old new
  written_without fault old new is = inl (ap conflict_of is ∙ undialled_conflict fault)

-- nothing is left of a run that wasn't made
pub left_without : (left : Option Left) (Fact : Left → Type 0) → left ≡ None → IfSome left Fact
left_without left Fact none = subst (λ (l : Option Left). IfSome l Fact) (sym none) tt

pub lost_without : (refusal : Option Refusal) (fault : DialFault) → refusal ≡ Some (refusal_of fault) → conflict_of refusal ≡ None
lost_without refusal fault is = ap conflict_of is ∙ undialled_conflict fault
