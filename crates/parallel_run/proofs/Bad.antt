-- What a run leaves that ended with its observation.
use Rattle.std.proofs.Common.{◌≡◌, ◌⊎◌, ℕ, ◌+◌, ◌<◌, Bool, true, false, List, [], ◌∷◌, ◌++◌, Option, None, Some, if◌then◌else◌, length, reverse, refl, sym, ap, ◌∙◌, subst, inl, inr, arith}
use Rattle.std.proofs.lemmas.Bool.{ne_eqb}
use Rattle.std.specs.Prelude.{◌==◌, slice_get}
use Rattle.engine_types.specs.declared.Aim.{Aim}
use Rattle.engine_types.specs.declared.Declared.{Declared}
use Rattle.engine_types.specs.declared.Entry.{Entry}
use Rattle.engine_types.specs.declared.Exchange.{Exchange}
use Rattle.engine_types.specs.declared.Observed.{Observed}
use Rattle.engine_types.specs.declared.RunLimits.{RunLimits}
use Rattle.ledger_run.proofs.Stepping.{grows-none}
use Rattle.ledger_run.specs.Tellings.{Telling, account_in}
use Rattle.ledger_run.specs.Timing as of_worker
use Rattle.ledger_run.specs.Timing.{late_by, readings_for}
use Rattle.observe_project.specs.Exchanges.{HasCauseOfEnd}
use Rattle.outside_api.specs.Accounts.{Account, AreCaused}
use Rattle.outside_api.specs.Clock.{Clock, new_clock}
use Rattle.parallel_run.specs.Together.{HasRun}
use Rattle.parallel_run.proofs.Joined.{readings_else}
use Rattle.project_run.proofs.Timed.{reads_first, run_timed, still_timed}
use Rattle.project_run.specs.Opening.{HasEndedBadly, Opens}
use Rattle.project_run.specs.Options.{clock_begun}
use Rattle.project_run.specs.Timing.{IsTimed, run_readings}
use Rattle.project_run.specs.Whole.{IsCaused, task_of}
use Rattle.project_run.specs.declared.opening.Opening.{Opening}
use Rattle.run_model.specs.Ending.{is_seen_bad}
use Rattle.run_model.specs.Logs.{GrowsBy}
use Rattle.run_model.specs.Runs.{IsLeftByAll, IsRun, Task}
use Rattle.worker_pool.specs.Crew.{EachPair}

no_more : (deadline : Option ℕ) (w n : ℕ) → (w == 0) ≡ false → n ≡ n + run_readings deadline w 0
no_more deadline w n other = still deadline ∙ ap (λ (m : ℕ). n + m) (readings_else deadline w 0 other)
  where
    still : (d : Option ℕ) → n ≡ n + readings_for d 0
    still None = omega arith
    still (Some d) = omega arith

never_late : (deadline : Option ℕ) (last : ℕ) → None ≡ late_by deadline 0 last
never_late None last = refl
never_late (Some d) last = refl

module _ (declared : Declared) (aim : Aim) (bounds : RunLimits) (observed : Observed) (clock : Clock) (before now : Telling)
    (unused : before.clock ≡ new_clock) (read : clock ≡ clock_begun bounds.deadline (length before.log) clock.first)
    (opens : Opens declared aim (Opening.Ended observed) (record before { clock = clock }) now) where
  bad : HasEndedBadly observed
  bad = opens.follows

  pub bad_run : IsRun (task_of declared aim bounds) (Entry.Seen observed ∷ [])
  bad_run = record {
    legal = (tt, (refl, opens.observed, rw bad.1 tt));
    over = inl (rw bad.1 refl);
  }

  never_good : is_seen_bad (Entry.Seen observed ∷ []) ≡ false → ⊥
  never_good good = let wrong : true ≡ false = rw bad.1 at good in cc wrong

  pub bad_left : IsLeftByAll (task_of declared aim bounds) (Entry.Seen observed ∷ [])
  bad_left good = absurd (never_good good)

  pub bad_first : HasRun (task_of declared aim bounds) (Entry.Seen observed ∷ []) 0 before now
  bad_first = record {
    log = opens.log;
    caused = record {
      exchanges = opens.caused;
      observed = λ zero other e. let same : Some (Entry.Seen observed) ≡ Some (Entry.Seen other) = e in
          let one : observed ≡ other = cc same in subst (λ (o : Observed). HasCauseOfEnd now.heard before.faults now.faults o.end) one opens.cause;
    };
    timed = run_timed (task_of declared aim bounds) (Entry.Seen observed ∷ []) (length before.log) before.clock clock now.clock unused read
        (subst (λ (c : Clock). of_worker.IsTimed bounds.deadline (Entry.Seen observed ∷ []) clock c) (sym opens.timed) (still_timed bounds.deadline observed clock));
    read_first = λ zero. reads_first bounds.deadline (length before.log) clock now.clock read (λ place e. ap (λ (c : Clock). c.place) opens.timed ∙ e);
  }

  bad_other : (w : ℕ) (s : Telling) → (w == 0) ≡ false → HasRun (task_of declared aim bounds) (Entry.Seen observed ∷ []) w s s
  bad_other w s other = record {
    log = rw other (grows-none s.log);
    caused = record { exchanges = rw other refl; observed = λ zero first e. absurd (never zero) };
    timed = record {
      looks = omega arith;
      stops = omega arith;
      paused = omega arith;
      readings = no_more bounds.deadline w s.clock.readings other;
      late = never_late bounds.deadline s.clock.last;
    };
    read_first = λ zero. absurd (never zero);
  }
    where
      never : w ≡ 0 → ⊥
      never zero = let bad : (0 == 0) ≡ false = ap (λ (n : ℕ). n == 0) (sym zero) ∙ other in cc bad

  pub bad_others : {H : Type 0} (tell : H → Telling) (n : ℕ) (xs : List H) → 0 < n → EachPair (λ w x y. HasRun (task_of declared aim bounds) (Entry.Seen observed ∷ []) w (tell x) (tell y)) n xs xs
  bad_others tell n [] some = tt
  bad_others tell n (x ∷ xs) some = (bad_other n (tell x) (ne_eqb n 0 (λ z. absurd (omega (arith, some, z)))), bad_others tell (n + 1) xs (omega arith))
