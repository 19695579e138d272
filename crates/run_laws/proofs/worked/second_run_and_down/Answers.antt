use Rattle.std.proofs.Common.{◌≡◌, ℕ, zero, suc, ◌<◌, refl, inl, inr, reverse, arith}
use Rattle.std.specs.Char.{encode_utf8}
use Rattle.std.specs.Fmt.{digits}
use Rattle.std.specs.Str.{chars}
use Rattle.run_model.specs.Journals.{Nothing, Setup, holding}
use Rattle.run_laws.specs.OneService.{shop, upping}
use Rattle.run_laws.specs.OtherRuns.{comes_again, downing, goes_down}
use Rattle.run_model.specs.Runs.{IsRun, run_setup}
use Rattle.run_laws.proofs.Ready.{ready}
use Rattle.run_laws.proofs.worked.second_run_and_down.Goals as goal

abbrev again_setup : Setup
again_setup = run_setup (upping shop) comes_again

again_none_out : (w : ℕ) → w < 1 → holding (reverse comes_again) w ≡ Nothing
again_none_out zero h = refl
again_none_out (suc w) h = absurd (omega arith)

again : IsRun (upping shop) comes_again
unfolding digits
again = record {
  legal = ((tt, (refl, inl refl, refl)), (ready again_setup _ (omega arith) refl refl refl, refl));
  over = inr (record { none_out = again_none_out; left = refl; over = inr (refl, refl) });
}

abbrev down_setup : Setup
down_setup = run_setup (downing shop) goes_down

down_none_out : (w : ℕ) → w < 1 → holding (reverse goes_down) w ≡ Nothing
down_none_out zero h = refl
down_none_out (suc w) h = absurd (omega arith)

down : IsRun (downing shop) goes_down
unfolding digits
down = record {
  legal = ((((((tt, (refl, inl refl, refl)), (ready down_setup _ (omega arith) refl refl refl, refl)), refl), (ready down_setup _ (omega arith) refl refl refl, refl)), refl), (ready down_setup _ (omega arith) refl refl refl, refl));
  over = inr (record { none_out = down_none_out; left = refl; over = inr (refl, refl) });
}

pub returns : goal.returns
unfolding digits chars encode_utf8
returns c = record { again = again; again_status = refl; again_report = refl; down = down; down_status = refl; down_report = refl }
