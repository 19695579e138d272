use Rattle.std.proofs.Common.{◌≡◌, ◌∙◌, ◌∷◌, [], List, sym}
use Rattle.engine_types.specs.declared.Entry.{Entry}
use Rattle.std.specs.Prelude.{length}
use Rattle.ledger_run.specs.Tellings.{telling}
use Rattle.parallel_run.proofs.Each.{causes, each_same, firsts, logs, times}
use Rattle.parallel_run.proofs.Ends.{ends_exact, ends_gone}
use Rattle.parallel_run.specs.Together.{first_reading, limits_by}
use Rattle.outside_api.specs.Accounts.{account}
use Rattle.project_run.proofs.Exact.{if_any, makes_once, rolls_few, spares_agreeing}
use Rattle.project_run.proofs.Leaving.{nothing_caused}
use Rattle.project_run.proofs.Sparing.{runs_spare_kept}
use Rattle.project_run.specs.Whole.{IsCaused, task_of}
use Rattle.parallel_run.proofs.whole_run.run_parallel.Goals as goal

pub returns-in-Ok-clause-run : goal.returns-in-Ok-clause-run
returns-in-Ok-clause-run g c = if_any c.run-ran.result.ran.journal c.run-ran.ensures.leaves.run

pub returns-in-Ok-clause-left : goal.returns-in-Ok-clause-left
returns-in-Ok-clause-left g c = if_any c.run-ran.result.ran.journal c.run-ran.ensures.leaves.left

pub returns-in-Ok-clause-log : goal.returns-in-Ok-clause-log
returns-in-Ok-clause-log g c = if_any c.run-ran.result.ran.journal
    (logs (λ h. telling (g.H.Hand.log h) (g.H.Hand.heard h) (g.H.Hand.faults h) (g.H.Hand.clock h) (g.H.Hand.engine h)) (task_of c.args.declared c.args.aim (limits_by (length c.args.hands) c.args.options (first_reading (λ h. g.H.Hand.clock h) c.run-ran.result.hands))) c.run-ran.result.ran.journal c.args.hands c.run-ran.result.hands c.run-ran.ensures.leaves.hands)

pub returns-in-Ok-clause-cause : goal.returns-in-Ok-clause-cause
returns-in-Ok-clause-cause g c = causes (λ h. telling (g.H.Hand.log h) (g.H.Hand.heard h) (g.H.Hand.faults h) (g.H.Hand.clock h) (g.H.Hand.engine h)) (task_of c.args.declared c.args.aim (limits_by (length c.args.hands) c.args.options (first_reading (λ h. g.H.Hand.clock h) c.run-ran.result.hands))) c.run-ran.result.ran.journal c.args.hands c.run-ran.result.hands c.run-ran.ensures.leaves.hands

pub returns-in-Ok-clause-timed : goal.returns-in-Ok-clause-timed
returns-in-Ok-clause-timed g c = if_any c.run-ran.result.ran.journal
    (times (λ h. telling (g.H.Hand.log h) (g.H.Hand.heard h) (g.H.Hand.faults h) (g.H.Hand.clock h) (g.H.Hand.engine h)) (task_of c.args.declared c.args.aim (limits_by (length c.args.hands) c.args.options (first_reading (λ h. g.H.Hand.clock h) c.run-ran.result.hands))) c.run-ran.result.ran.journal c.args.hands c.run-ran.result.hands c.run-ran.ensures.leaves.hands)

pub returns-in-Ok-clause-read_first : goal.returns-in-Ok-clause-read_first
returns-in-Ok-clause-read_first g c = if_any c.run-ran.result.ran.journal
    (firsts (λ h. telling (g.H.Hand.log h) (g.H.Hand.heard h) (g.H.Hand.faults h) (g.H.Hand.clock h) (g.H.Hand.engine h)) (task_of c.args.declared c.args.aim (limits_by (length c.args.hands) c.args.options (first_reading (λ h. g.H.Hand.clock h) c.run-ran.result.hands))) c.run-ran.result.ran.journal c.args.hands c.run-ran.result.hands c.run-ran.ensures.leaves.hands)

pub returns-in-Ok-clause-fault : goal.returns-in-Ok-clause-fault
returns-in-Ok-clause-fault g c = if_any c.run-ran.result.ran.journal c.run-ran.ensures.fault

pub returns-in-Ok-clause-kept : goal.returns-in-Ok-clause-kept
returns-in-Ok-clause-kept g c = λ up. runs_spare_kept (task_of c.args.declared c.args.aim (limits_by (length c.args.hands) c.args.options (first_reading (λ h. g.H.Hand.clock h) c.run-ran.result.hands))) c.run-ran.result.ran.journal up c.requires.whole.owners c.run-ran.ensures.leaves.run

pub returns-in-Ok-clause-exact : goal.returns-in-Ok-clause-exact
returns-in-Ok-clause-exact g c = ends_exact (task_of c.args.declared c.args.aim (limits_by (length c.args.hands) c.args.options (first_reading (λ h. g.H.Hand.clock h) c.run-ran.result.hands))) c.run-ran.result.ran.journal c.requires.whole c.run-ran.ensures.leaves.run c.run-ran.result.ran.fault c.run-ran.ensures.fault

pub returns-in-Ok-clause-gone : goal.returns-in-Ok-clause-gone
returns-in-Ok-clause-gone g c = ends_gone (task_of c.args.declared c.args.aim (limits_by (length c.args.hands) c.args.options (first_reading (λ h. g.H.Hand.clock h) c.run-ran.result.hands))) c.run-ran.result.ran.journal c.requires.whole c.run-ran.ensures.leaves.run c.run-ran.result.ran.fault c.run-ran.ensures.fault

pub returns-in-Ok-clause-once : goal.returns-in-Ok-clause-once
returns-in-Ok-clause-once g c = if_any c.run-ran.result.ran.journal (λ up own.
    makes_once (task_of c.args.declared c.args.aim (limits_by (length c.args.hands) c.args.options (first_reading (λ h. g.H.Hand.clock h) c.run-ran.result.hands))) c.run-ran.result.ran.journal up c.requires.whole own c.run-ran.ensures.leaves.run)

pub returns-in-Ok-clause-agreeing : goal.returns-in-Ok-clause-agreeing
returns-in-Ok-clause-agreeing g c = if_any c.run-ran.result.ran.journal (λ up own.
    spares_agreeing (task_of c.args.declared c.args.aim (limits_by (length c.args.hands) c.args.options (first_reading (λ h. g.H.Hand.clock h) c.run-ran.result.hands))) c.run-ran.result.ran.journal up c.requires.whole own c.run-ran.ensures.leaves.run)

pub returns-in-Ok-clause-rolls : goal.returns-in-Ok-clause-rolls
returns-in-Ok-clause-rolls g c = if_any c.run-ran.result.ran.journal (λ up.
    rolls_few (task_of c.args.declared c.args.aim (limits_by (length c.args.hands) c.args.options (first_reading (λ h. g.H.Hand.clock h) c.run-ran.result.hands))) c.run-ran.result.ran.journal up c.requires.whole c.requires.small c.run-ran.ensures.leaves.run)

pub returns-in-Err-clause-cause : goal.returns-in-Err-clause-cause
returns-in-Err-clause-cause g c = each_same (λ w x y. IsCaused (task_of c.args.declared c.args.aim (limits_by (length c.args.hands) c.args.options (first_reading (λ h. g.H.Hand.clock h) c.args.hands))) c.unopened.result.journal w (account (g.H.Hand.log x) (g.H.Hand.heard x) (g.H.Hand.faults x)) (account (g.H.Hand.log y) (g.H.Hand.heard y) (g.H.Hand.faults y)))
    (λ w x. nothing_caused (task_of c.args.declared c.args.aim (limits_by (length c.args.hands) c.args.options (first_reading (λ h. g.H.Hand.clock h) c.args.hands))) c.unopened.result.journal w _ c.unopened.ensures.journal) 0 c.args.hands

never_empty : (journal : List Entry) → (entry : Entry) × (rest : List Entry) × (journal ≡ entry ∷ rest) → journal ≡ [] → ⊥
never_empty journal begun e = let bad : begun.0 ∷ begun.1 ≡ [] = sym begun.2 ∙ e in cc bad

pub returns-in-Ok-clause-empty : goal.returns-in-Ok-clause-empty
returns-in-Ok-clause-empty g c = λ e. absurd (never_empty c.run-ran.result.ran.journal c.run-ran.ensures.leaves.begun e)

pub returns-in-Ok-clause-report : goal.returns-in-Ok-clause-report
returns-in-Ok-clause-report g c = c.run-ran.ensures.report
