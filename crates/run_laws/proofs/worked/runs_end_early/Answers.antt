use Rattle.std.proofs.Common.{◌≡◌, ℕ, zero, suc, ◌<◌, refl, inl, inr, reverse, arith}
use Rattle.std.specs.Fmt.{digits}
use Rattle.run_model.specs.Journals.{Nothing, Setup, holding}
use Rattle.run_laws.specs.OneService.{shop, upping}
use Rattle.run_laws.specs.OtherRuns.{checked, is_stopped, runs_late, runs_short, waiting}
use Rattle.run_model.specs.Runs.{IsRun, run_setup}
use Rattle.run_laws.proofs.Ready.{ready}
use Rattle.run_laws.proofs.worked.runs_end_early.Goals as goal

abbrev late_setup : Setup
late_setup = run_setup (waiting checked) runs_late

late_none_out : (w : ℕ) → w < 1 → holding (reverse runs_late) w ≡ Nothing
late_none_out zero h = refl
late_none_out (suc w) h = absurd (omega arith)

late : IsRun (waiting checked) runs_late
unfolding digits
late = record {
  legal = (((((((((((tt, (refl, inl refl, refl)), (ready late_setup _ (omega arith) refl refl refl, refl)), refl), (ready late_setup _ (omega arith) refl refl refl, refl)), refl), (ready late_setup _ (omega arith) refl refl refl, refl)), refl), (ready late_setup _ (omega arith) refl refl refl, refl)), refl), (ready late_setup _ (omega arith) refl refl refl, refl, omega arith)), (ready late_setup _ (omega arith) refl refl refl, refl));
  over = inr (record { none_out = late_none_out; left = refl; over = inl refl });
}

abbrev stopped_setup : Setup
stopped_setup = run_setup (upping shop) is_stopped

stopped_none_out : (w : ℕ) → w < 1 → holding (reverse is_stopped) w ≡ Nothing
stopped_none_out zero h = refl
stopped_none_out (suc w) h = absurd (omega arith)

stopped : IsRun (upping shop) is_stopped
unfolding digits
stopped = record {
  legal = (((tt, (refl, inl refl, refl)), (ready stopped_setup _ (omega arith) refl refl refl, refl)), (ready stopped_setup _ (omega arith) refl refl refl, refl));
  over = inr (record { none_out = stopped_none_out; left = refl; over = inl refl });
}

abbrev short_setup : Setup
short_setup = run_setup (upping shop) runs_short

short_none_out : (w : ℕ) → w < 1 → holding (reverse runs_short) w ≡ Nothing
short_none_out zero h = refl
short_none_out (suc w) h = absurd (omega arith)

short : IsRun (upping shop) runs_short
unfolding digits
short = record {
  legal = ((tt, (refl, inl refl, refl)), (ready short_setup _ (omega arith) refl refl refl, omega arith));
  over = inr (record { none_out = short_none_out; left = refl; over = inl refl });
}

pub returns : goal.returns
unfolding digits
returns c = record {
  limits = refl;
  late = late;
  late_status = refl;
  late_fault = refl;
  stopped = stopped;
  stopped_status = refl;
  stopped_fault = refl;
  short = short;
  short_status = refl;
  short_fault = refl;
}
