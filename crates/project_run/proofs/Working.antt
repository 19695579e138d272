-- What the worker of a run leaves, by the calls that it was made of.
use Rattle.std.proofs.Common.{◌≡◌, ◌<◌, true, List, [], ◌∷◌, reverse, sym, ap, ◌∙◌, subst, refl}
use Rattle.engine_types.specs.declared.Declared.{Declared}
use Rattle.engine_types.specs.declared.Entry.{Entry}
use Rattle.engine_types.specs.declared.Observed.{Observed}
use Rattle.engine_types.specs.declared.Plan.{Plan}
use Rattle.engine_types.specs.declared.RunLimits.{RunLimits}
use Rattle.journal_laws.specs.Courses.{Course, entries}
use Rattle.journal_laws.specs.Laws.{IsLegalRun}
use Rattle.ledger_core.specs.Beginning.{MayBegin, begun}
use Rattle.ledger_run.specs.Steps.{exchanges_since, steps_since}
use Rattle.ledger_run.specs.Tellings.{Telling, account_in}
use Rattle.ledger_run.specs.Timing.{IsTimed}
use Rattle.ledger_run.specs.Works.{GoesOn, HasOnlySeen}
use Rattle.outside_api.specs.Accounts.{AreCaused}
use Rattle.project_run.specs.Carrying.{IsWorked, come_to}
use Rattle.run_model.specs.EngineRules.{TellsSteps, exchanges_in}
use Rattle.run_model.specs.Journals.{has_left}
use Rattle.run_model.specs.Logs.{GrowsBy}
use Rattle.std.specs.Prelude.{Option, ℕ}
use Rattle.engine_types.specs.declared.Aim.{Aim}

-- a ledger that was begun with what may begin has only its good observation
pub only_seen : (declared : Declared) (observed : Observed) (plan : Plan) (limits : RunLimits) (run : Course) → MayBegin declared observed plan limits → run ≡ begun declared observed plan limits
    → HasOnlySeen run.journal
only_seen declared observed plan limits run may is = rw is (record { observation = observed; seen = may.seen; only = refl; good = may.good })

-- the ledger that was worked on, and the journal that it handed back
pub worked : (old new : Course) (journal : List Entry) (deadline : Option ℕ) (before now : Telling) → new ≡ come_to old new.journal → journal ≡ new.journal → old.limits.deadline ≡ deadline
    → GoesOn old.journal new.journal → ((aim : Aim) → IsLegalRun aim old → IsLegalRun aim new) → has_left (entries new) 0 ≡ true
    → GrowsBy (exchanges_since old new) before.log now.log → TellsSteps (steps_since old new) before.engine now.engine
    → exchanges_in (steps_since old new) ≡ exchanges_since old new → AreCaused (exchanges_since old new) (account_in before) (account_in now)
    → IsTimed deadline (entries new) before.clock now.clock
    → IsWorked old journal before now
worked old new journal deadline before now same j d more legal left log told steps caused timed =
    let e : new ≡ come_to old journal = same ∙ ap (come_to old) (sym j) in
    record {
      more = subst (GoesOn old.journal) (sym j) more;
      legal = λ aim is. subst (IsLegalRun aim) e (legal aim is);
      left = subst (λ (js : List Entry). has_left (reverse js) 0 ≡ true) (sym j) left;
      log = subst (λ (r : Course). GrowsBy (exchanges_since old r) before.log now.log) e log;
      told = subst (λ (r : Course). TellsSteps (steps_since old r) before.engine now.engine) e told;
      steps = subst (λ (r : Course). exchanges_in (steps_since old r) ≡ exchanges_since old r) e steps;
      caused = subst (λ (r : Course). AreCaused (exchanges_since old r) (account_in before) (account_in now)) e caused;
      timed = subst (λ (js : List Entry). IsTimed old.limits.deadline (reverse js) before.clock now.clock) (sym j)
          (subst (λ (limit : Option ℕ). IsTimed limit (reverse new.journal) before.clock now.clock) (sym d) timed);
    }

-- what is told of the parts that a ledger hands back is told of what its run is of
pub told_of : (Fact : Declared → Plan → List Entry → Type 0) (declared other : Declared) (plan another : Plan) (journal told : List Entry) → declared ≡ other → plan ≡ another → told ≡ journal
    → Fact declared plan journal → Fact other another told
told_of Fact declared other plan another journal told d p j fact =
    subst (λ (x : Declared). Fact x another told) d (subst (λ (x : Plan). Fact declared x told) p (subst (λ (x : List Entry). Fact declared plan x) (sym j) fact))
