-- A run that went on until each of its workers left.
use Rattle.std.proofs.Common.{◌≡◌, ◌<◌, List, refl, sym, subst, arith}
use Rattle.engine_types.specs.declared.Aim.{Aim}
use Rattle.engine_types.specs.declared.Entry.{Entry}
use Rattle.run_model.specs.Ending.{EveryWorkerLeft, IsRunOver}
use Rattle.run_model.specs.Plans.{IsOrderly, IsWhole}
use Rattle.journal_laws.specs.Courses.{Course, entries, setup_of}
use Rattle.journal_laws.specs.Laws.{IsLegalRun}
use Rattle.ledger_core.specs.Beginning.{run_of}
use Rattle.ledger_run.specs.Turns.{with_more}
use Rattle.ledger_run.specs.Works.{GoesOn, HasOnlySeen}
use Rattle.run_ends.proofs.Leaving.{left_ends}
use Rattle.ledger_turns.specs.Calls.{IsOpen}
use Rattle.worker_pool.specs.Crew.{ComesTo}
use Rattle.worker_pool.proofs.Aims.{legal_on}

-- what is known of it
pub record IsFollowed (q new : Course) : Type 0 where
  pub same : new ≡ run_of q.declared q.plan q.limits new.journal
  pub more : GoesOn q.journal new.journal
  pub legal : (aim : Aim) → IsLegalRun aim q → IsLegalRun aim new
  pub over : (aim : Aim) → IsWhole q.declared → IsOrderly q.declared q.plan.actions → IsLegalRun aim q → IsRunOver (setup_of new) (entries new)

followed_by : (q : Course) (h : List Entry) → HasOnlySeen q.journal → IsOpen (with_more q h) → EveryWorkerLeft (setup_of (with_more q h)) (entries (with_more q h)) → 0 < q.limits.workers
    → IsFollowed q (with_more q h)
followed_by q h only shared left some = record {
  same = refl;
  more = (h, refl);
  legal = λ aim began. legal_on aim shared.aim q h only began shared.legal;
  over = λ aim whole orderly began. left_ends aim (setup_of (with_more q h)) (entries (with_more q h)) (omega (arith, some)) whole orderly (legal_on aim shared.aim q h only began shared.legal) left;
}

pub followed : (q new : Course) → HasOnlySeen q.journal → IsOpen new → ComesTo q new → EveryWorkerLeft (setup_of new) (entries new) → 0 < q.limits.workers → IsFollowed q new
followed q new only shared came left some = subst (λ (run : Course). IsFollowed q run) (sym came.come)
    (followed_by q came.history only (subst IsOpen came.come shared) (subst (λ (run : Course). EveryWorkerLeft (setup_of run) (entries run)) came.come left) some)
