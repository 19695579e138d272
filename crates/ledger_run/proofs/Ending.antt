-- What a worker that has left leaves.
use Rattle.std.proofs.Common.{◌≡◌, ℕ, ◌<◌, true, List, ◌++◌, sym, ap, ◌∙◌, subst, arith}
use Rattle.engine_types.specs.declared.Aim.{Aim}
use Rattle.engine_types.specs.declared.Entry.{Entry}
use Rattle.engine_types.specs.declared.Exchange.{Exchange}
use Rattle.outside_api.specs.Accounts.{AreCaused}
use Rattle.run_model.specs.EngineRules.{Step, TellsSteps, exchanges_in}
use Rattle.run_model.specs.Ending.{IsRunOver}
use Rattle.run_model.specs.Journals.{Setup, has_left}
use Rattle.run_model.specs.Logs.{GrowsBy, exchanges_of}
use Rattle.run_model.specs.Plans.{IsOrderly, IsWhole}
use Rattle.journal_laws.specs.Courses.{Course, entries, setup_of}
use Rattle.journal_laws.specs.Laws.{IsLegalRun}
use Rattle.ledger_core.specs.Beginning.{run_of}
use Rattle.run_ends.proofs.Leaving.{left_ends}
use Rattle.ledger_run.specs.Steps.{exchanges_since, steps_of, steps_since}
use Rattle.ledger_run.specs.Tellings.{Telling, account_in}
use Rattle.ledger_run.specs.Works.{GoesOn}
use Rattle.ledger_run.proofs.Coming.{Came}
use Rattle.ledger_run.proofs.Stepping.{exchanges-append, exchanges_are, since_is}

module _ (old new : Course) (before after : Telling) (came : Came old new before after) where
  journal_is : new.journal ≡ old.journal ++ came.added
  journal_is = ap (λ (run : Course). run.journal) came.grown_by

  pub same : new ≡ run_of old.declared old.plan old.limits new.journal
  same = came.grown_by ∙ ap (λ (j : List Entry). record old { journal = j }) (sym journal_is)

  pub more : GoesOn old.journal new.journal
  more = (came.added, journal_is)

  steps_are : steps_of (setup_of new) (entries new) 0 ≡ steps_of (setup_of old) (entries old) 0 ++ came.steps
  steps_are = ap (λ (setup : Setup). steps_of setup (entries new) 0) came.setup ∙ came.are

  steps_is : steps_since old new ≡ came.steps
  steps_is = since_is (steps_of (setup_of new) (entries new) 0) (steps_of (setup_of old) (entries old) 0) came.steps steps_are

  exchanges_all : exchanges_of (setup_of new) (entries new) 0 ≡ exchanges_of (setup_of old) (entries old) 0 ++ exchanges_in came.steps
  exchanges_all =
      sym (exchanges_are (setup_of new) (entries new) 0) ∙ ap exchanges_in steps_are ∙ exchanges-append (steps_of (setup_of old) (entries old) 0) came.steps
      ∙ ap (λ (es : List Exchange). es ++ exchanges_in came.steps) (exchanges_are (setup_of old) (entries old) 0)

  exchanges_is : exchanges_since old new ≡ exchanges_in came.steps
  exchanges_is = since_is (exchanges_of (setup_of new) (entries new) 0) (exchanges_of (setup_of old) (entries old) 0) (exchanges_in came.steps) exchanges_all

  pub log : GrowsBy (exchanges_since old new) before.log after.log
  log = subst (λ (es : List Exchange). GrowsBy es before.log after.log) (sym exchanges_is) came.log

  pub told : TellsSteps (steps_since old new) before.engine after.engine
  told = subst (λ (steps : List Step). TellsSteps steps before.engine after.engine) (sym steps_is) came.told

  pub steps : exchanges_in (steps_since old new) ≡ exchanges_since old new
  steps = ap exchanges_in steps_is ∙ sym exchanges_is

  pub caused : AreCaused (exchanges_since old new) (account_in before) (account_in after)
  caused = subst (λ (es : List Exchange). AreCaused es (account_in before) (account_in after)) (sym exchanges_is) came.caused

  -- a run whose only worker has left is over
  pub over : has_left (entries new) 0 ≡ true → (aim : Aim) → old.limits.workers ≡ 1 → IsWhole old.declared → IsOrderly old.declared old.plan.actions → IsLegalRun aim old
      → IsRunOver (setup_of new) (entries new)
  over left aim one whole orderly legal = left_ends aim (setup_of new) (entries new) (omega (arith, only))
      (subst (λ (run : Course). IsWhole run.declared) (sym came.grown_by) whole)
      (subst (λ (run : Course). IsOrderly run.declared run.plan.actions) (sym came.grown_by) orderly)
      (came.legal aim legal) each
    where
      only : new.limits.workers ≡ 1
      only = ap (λ (run : Course). run.limits.workers) came.grown_by ∙ one

      each : (w : ℕ) → w < new.limits.workers → has_left (entries new) w ≡ true
      each w l = let first : w ≡ 0 = omega (arith, l, only) in ap (λ (v : ℕ). has_left (entries new) v) first ∙ left
