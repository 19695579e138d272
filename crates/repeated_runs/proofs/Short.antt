-- A run's end with a want of memory in place of its refusal.
use Rattle.std.proofs.Common.{◌≡◌, ℕ, List, None, Some, length, refl, inl, inr, true, arith}
use Rattle.std.specs.Prelude.{Option}
use Rattle.compose_cli.proofs.Ran.{if_begun}
use Rattle.compose_cli.specs.Dialling.{Dials, MadeHands}
use Rattle.compose_cli.specs.Ends.{failed_dial}
use Rattle.compose_cli.specs.Runs.{RanAs, Reports}
use Rattle.compose_cli.specs.declared.Ended.{Ended}
use Rattle.ledger_run.specs.Tellings.{Telling}
use Rattle.outside_api.specs.declared.dial.Dial.{Dial}
use Rattle.refusals.specs.declared.Refusal.{Refusal}
use Rattle.repeated_runs.specs.Attempts.{IsOneRun}
use Rattle.repeated_runs.specs.Followings.{shortened}
use Rattle.repeated_runs.specs.Moments.{Moment}
use Rattle.run_model.specs.Runs.{Task}

-- the report stays
reports_short : (report : List ℕ) (refusal : Option Refusal) (written_old written_new : Option (List ℕ)) (old new : ℕ) → Reports report refusal written_old written_new old new
    → Reports report (Some Refusal.Memory) written_old written_new old new
reports_short report None written_old written_new old new grew = inl (true, grew)
reports_short report (Some refusal) written_old written_new old new (inl says) = inl says
reports_short report (Some refusal) written_old written_new old new (inr wanted) = inr (refl, wanted.1)

hands_short : (dials hands : ℕ) (refusal : Option Refusal) → MadeHands dials hands refusal → MadeHands dials hands (Some Refusal.Memory)
hands_short dials hands refusal (inl made) = inl (made.0, λ e. cc e)
hands_short dials hands refusal (inr made) = inr (made.0, inr refl)

dials_short : (Place : ℕ → Dial → Type 0) (workers : ℕ) (old new : List Dial) (hands : ℕ) (refusal : Option Refusal) → Dials Place workers old new hands refusal
    → Dials Place workers old new hands (Some Refusal.Memory)
dials_short Place workers old new hands refusal h = (h.0, h.1, h.2, h.3, hands_short (length h.0) hands refusal h.4)

module _ {H : Type 0} (tell : H → Telling) (task : Task) (ended : Ended H) where
  ran_short : (written_old written_new : Option (List ℕ)) (old new : ℕ) → RanAs tell task ended written_old written_new old new → RanAs tell task (shortened ended) written_old written_new old new
  ran_short written_old written_new old new ran = record {
    legal = ran.legal;
    left = ran.left;
    hands = ran.hands;
    log = ran.log;
    cause = ran.cause;
    timed = ran.timed;
    read_first = ran.read_first;
    run_status = inr (inr refl);
    run_fault = inr (inr refl);
    report = reports_short _ ended.refusal written_old written_new old new ran.report;
    kept = ran.kept;
    once = ran.once;
    agreeing = ran.agreeing;
    rolls = ran.rolls;
    exact_in_each_world = λ zero. absurd (never zero);
    gone_in_each_world = λ zero. absurd (never zero);
  }
    where
      never : ◌≡◌ {A = ℕ} 9 0 → ⊥
      never bad = absurd (omega (arith, bad))

  -- what one run leaves it leaves also with that end
  pub one_short : (Place : ℕ → Dial → Type 0) (workers : ℕ) (old new : Moment) → IsOneRun tell Place workers task ended old new → IsOneRun tell Place workers task (shortened ended) old new
  one_short Place workers old new run = record {
    dials = dials_short Place workers old.dials new.dials (length ended.hands) ended.refusal run.dials;
    dialled = run.dialled;
    counted = λ e. absurd (unfailed e);
    origin = λ h. h;
    unmade = λ e. absurd (unfailed e);
    unbegun = λ e. tt;
    quiet = run.quiet;
    unsent = run.unsent;
    ran = if_begun ended.journal run.ran (ran_short old.written new.written old.out_faults new.out_faults);
    status = refl;
  }
    where
      unfailed : Some Refusal.Memory ≡ failed_dial → ⊥
      unfailed e = cc e
