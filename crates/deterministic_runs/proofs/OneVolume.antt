-- The runs that bring up a volume, worked out.
use Rattle.std.proofs.Common.{◌≡◌, ℕ, zero, suc, ◌<◌, true, false, List, refl, inl, inr, reverse, arith}
use Rattle.std.specs.Fmt.{digits}
use Rattle.std.specs.Prelude.{is_some}
use Rattle.engine_types.specs.declared.Entry.{Entry}
use Rattle.memory_engine.specs.declared.catalogue.Catalogue.{Catalogue}
use Rattle.run_model.specs.Journals.{Nothing, Setup, has_left, holding, seen_in}
use Rattle.run_model.specs.Legal.{IsReady}
use Rattle.run_model.specs.Runs.{IsRun, run_setup}
use Rattle.deterministic_runs.specs.Allowed.{IsAllowed}
use Rattle.deterministic_runs.specs.MemoryRules.{rules_of}
use Rattle.deterministic_runs.specs.OneVolume.{faultless, fresh, loses_third, loses_volume, makes_volume, stops_early, upping}

ready : (setup : Setup) (past : List Entry) → 0 < setup.limits.workers → is_some (seen_in past) ≡ true → holding past 0 ≡ Nothing → has_left past 0 ≡ false → IsReady setup past 0
ready setup past below begun idle here = record { begun = begun; below = below; idle = idle; here = here }

abbrev whole_setup : Setup
whole_setup = run_setup upping makes_volume

whole_none_out : (w : ℕ) → w < 1 → holding (reverse makes_volume) w ≡ Nothing
whole_none_out zero h = refl
whole_none_out (suc w) h = absurd (omega (arith, h))

whole_run : IsRun upping makes_volume
unfolding digits
whole_run = record {
  legal = ((((tt, (refl, inl refl, refl)), (ready whole_setup _ (omega arith) refl refl refl, refl)), refl), (ready whole_setup _ (omega arith) refl refl refl, refl));
  over = inr (record { none_out = whole_none_out; left = refl; over = inr (refl, refl) });
}

pub whole : IsAllowed (rules_of Catalogue.All faultless) fresh upping makes_volume
unfolding digits
whole = record {
  run = whole_run;
  served = (refl, (refl, (refl, tt)));
  heeded = ((((tt, tt), λ h. refl), tt), λ h. refl);
  ample = refl;
}

abbrev cut_setup : Setup
cut_setup = run_setup upping loses_volume

cut_none_out : (w : ℕ) → w < 1 → holding (reverse loses_volume) w ≡ Nothing
cut_none_out zero h = refl
cut_none_out (suc w) h = absurd (omega (arith, h))

cut_run : IsRun upping loses_volume
unfolding digits
cut_run = record {
  legal = (((((tt, (refl, inl refl, refl)), (ready cut_setup _ (omega arith) refl refl refl, refl)), refl), (ready cut_setup _ (omega arith) refl refl refl, refl)), (ready cut_setup _ (omega arith) refl refl refl, refl));
  over = inr (record { none_out = cut_none_out; left = refl; over = inl refl });
}

pub cut : IsAllowed (rules_of Catalogue.All loses_third) fresh upping loses_volume
unfolding digits
cut = record {
  run = cut_run;
  served = (refl, (refl, (refl, tt)));
  heeded = (((((tt, tt), λ h. refl), tt), refl), λ h. absurd (cc h));
  ample = refl;
}

abbrev early_setup : Setup
early_setup = run_setup upping stops_early

early_none_out : (w : ℕ) → w < 1 → holding (reverse stops_early) w ≡ Nothing
early_none_out zero h = refl
early_none_out (suc w) h = absurd (omega (arith, h))

pub early_run : IsRun upping stops_early
unfolding digits
early_run = record {
  legal = (((tt, (refl, inl refl, refl)), (ready early_setup _ (omega arith) refl refl refl, refl)), (ready early_setup _ (omega arith) refl refl refl, refl));
  over = inr (record { none_out = early_none_out; left = refl; over = inl refl });
}

-- nobody asks the worker to stop
pub early : IsAllowed (rules_of Catalogue.All faultless) fresh upping stops_early → ⊥
early allowed = let wrong : false ≡ true = allowed.heeded.0.1 in cc wrong
