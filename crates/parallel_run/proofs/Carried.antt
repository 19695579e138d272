-- What the workers of a run leave, by the calls that it was made of.
use Rattle.std.proofs.Common.{◌≡◌, ◌⊎◌, ℕ, List, [], ◌∷◌, Option, refl, sym, ap, ◌∙◌, subst}
use Rattle.engine_types.specs.declared.Aim.{Aim}
use Rattle.engine_types.specs.declared.Declared.{Declared}
use Rattle.engine_types.specs.declared.Entry.{Entry}
use Rattle.engine_types.specs.declared.Observed.{Observed}
use Rattle.engine_types.specs.declared.Plan.{Plan}
use Rattle.engine_types.specs.declared.RunLimits.{RunLimits}
use Rattle.journal_laws.specs.Courses.{Course, entries, first_seen, setup_of}
use Rattle.journal_laws.specs.Laws.{IsLegalRun}
use Rattle.ledger_core.specs.Beginning.{MayBegin, begun}
use Rattle.ledger_run.specs.Tellings.{Telling}
use Rattle.ledger_run.specs.Works.{GoesOn}
use Rattle.ledger_turns.specs.Calls.{IsOpen}
use Rattle.parallel_run.specs.Together.{AreCarriedOut, IsUnbegun, IsWorkedOn}
use Rattle.project_run.specs.Carrying.{come_to}
use Rattle.run_model.specs.Ending.{EveryWorkerLeft}
use Rattle.run_model.specs.Legal.{Saw}
use Rattle.worker_pool.specs.Crew.{EachPair, HasDone}

-- workers may share a ledger that was begun with what may begin
pub open_begun : (declared : Declared) (observed : Observed) (plan : Plan) (limits : RunLimits) (run : Course) → MayBegin declared observed plan limits → run ≡ begun declared observed plan limits
    → IsOpen run
open_begun declared observed plan limits run may is = subst IsOpen (sym is) (record {
  aim = may.aim;
  legal = (tt, (refl, may.was_observed, saw));
  begun = rw may.good refl;
  few = may.few_workers;
})
  where
    saw : Saw observed.end (first_seen (Entry.Seen observed ∷ []))
    saw = rw may.good refl

module _ {H : Type 0} (tell : H → Telling) where
  -- the ledger that was worked on, and the journal that it handed back
  pub worked_on : (old new : Course) (journal : List Entry) (deadline : Option ℕ) (before after : List H) → new ≡ come_to old new.journal → journal ≡ new.journal → old.limits.deadline ≡ deadline
      → GoesOn old.journal new.journal → ((aim : Aim) → IsLegalRun aim old → IsLegalRun aim new) → EveryWorkerLeft (setup_of new) (entries new)
      → EachPair (λ w x y. HasDone w deadline old new (tell x) (tell y)) 0 before after
      → IsWorkedOn tell old journal before after
  worked_on old new journal deadline before after same j d more legal left hands =
      let e : new ≡ come_to old journal = same ∙ ap (come_to old) (sym j) in
      record {
        more = subst (GoesOn old.journal) (sym j) more;
        legal = λ aim is. subst (IsLegalRun aim) e (legal aim is);
        left = subst (λ (r : Course). EveryWorkerLeft (setup_of r) (entries r)) e left;
        hands = subst (λ (r : Course). EachPair (λ w x y. HasDone w old.limits.deadline old r (tell x) (tell y)) 0 before after) e
            (subst (λ (limit : Option ℕ). EachPair (λ w x y. HasDone w limit old new (tell x) (tell y)) 0 before after) (sym d) hands);
      }

  -- what came of a ledger came of what it was begun with
  pub carried : (declared : Declared) (observed : Observed) (plan : Plan) (limits : RunLimits) (run : Course) (journal : List Entry) (before after : List H) → run ≡ begun declared observed plan limits
      → ((other : Observed) → run.journal ≡ Entry.Seen other ∷ [] → IsWorkedOn tell run journal before after ⊎ IsUnbegun other journal before after)
      → AreCarriedOut tell declared observed plan limits journal before after
  carried declared observed plan limits run journal before after is worked =
      subst (λ (r : Course). IsWorkedOn tell r journal before after ⊎ IsUnbegun observed journal before after) is (worked observed (ap (λ (r : Course). r.journal) is))
