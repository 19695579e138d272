use Rattle.std.proofs.Common.{◌≡◌, ◌∙◌, ◌∷◌, [], List, refl, sym}
use Rattle.engine_types.specs.declared.Entry.{Entry}
use Rattle.project_run.proofs.Exact.{ends_exact, ends_gone, goes_through, if_any, makes_once, rolls_few, spares_agreeing}
use Rattle.project_run.proofs.Sparing.{runs_spare_kept}
use Rattle.project_run.proofs.Leaving.{nothing_caused}
use Rattle.project_run.specs.Options.{limits_by}
use Rattle.project_run.specs.Whole.{task_of}
use Rattle.project_run.proofs.whole_run.run_project.Goals as goal

pub returns-in-Ok-clause-kept : goal.returns-in-Ok-clause-kept
returns-in-Ok-clause-kept g c =
    λ up. runs_spare_kept (task_of c.args.declared c.args.aim (limits_by c.args.options (g.H.Hand.clock c.run-ran.new.hand))) c.run-ran.result.ran.journal up c.requires.whole.owners c.run-ran.ensures.leaves.run

pub returns-in-Ok-clause-left : goal.returns-in-Ok-clause-left
returns-in-Ok-clause-left g c = if_any c.run-ran.result.ran.journal c.run-ran.ensures.leaves.left

pub returns-in-Ok-clause-read_first : goal.returns-in-Ok-clause-read_first
returns-in-Ok-clause-read_first g c = if_any c.run-ran.result.ran.journal c.run-ran.ensures.leaves.read_first

pub returns-in-Ok-clause-world : goal.returns-in-Ok-clause-world
returns-in-Ok-clause-world g c = if_any c.run-ran.result.ran.journal
    (goes_through c.args.declared c.args.aim (limits_by c.args.options (g.H.Hand.clock c.run-ran.new.hand)) c.run-ran.result.ran.journal refl c.requires.whole c.run-ran.ensures.leaves.run (g.H.Hand.engine c.args.hand.now) (g.H.Hand.engine c.run-ran.new.hand) c.run-ran.ensures.leaves.told)

pub returns-in-Ok-clause-exact : goal.returns-in-Ok-clause-exact
returns-in-Ok-clause-exact g c =
    ends_exact c.args.declared c.args.aim (limits_by c.args.options (g.H.Hand.clock c.run-ran.new.hand)) c.run-ran.result.ran.journal refl c.requires.whole c.run-ran.ensures.leaves.run c.run-ran.result.ran.fault c.run-ran.ensures.fault

pub returns-in-Ok-clause-once : goal.returns-in-Ok-clause-once
returns-in-Ok-clause-once g c = if_any c.run-ran.result.ran.journal (λ up own.
    makes_once (task_of c.args.declared c.args.aim (limits_by c.args.options (g.H.Hand.clock c.run-ran.new.hand))) c.run-ran.result.ran.journal up c.requires.whole own c.run-ran.ensures.leaves.run)

pub returns-in-Ok-clause-agreeing : goal.returns-in-Ok-clause-agreeing
returns-in-Ok-clause-agreeing g c = if_any c.run-ran.result.ran.journal (λ up own.
    spares_agreeing (task_of c.args.declared c.args.aim (limits_by c.args.options (g.H.Hand.clock c.run-ran.new.hand))) c.run-ran.result.ran.journal up c.requires.whole own c.run-ran.ensures.leaves.run)

pub returns-in-Ok-clause-rolls : goal.returns-in-Ok-clause-rolls
returns-in-Ok-clause-rolls g c = if_any c.run-ran.result.ran.journal (λ up.
    rolls_few (task_of c.args.declared c.args.aim (limits_by c.args.options (g.H.Hand.clock c.run-ran.new.hand))) c.run-ran.result.ran.journal up c.requires.whole c.requires.small c.run-ran.ensures.leaves.run)

pub returns-in-Ok-clause-gone : goal.returns-in-Ok-clause-gone
returns-in-Ok-clause-gone g c =
    ends_gone c.args.declared c.args.aim (limits_by c.args.options (g.H.Hand.clock c.run-ran.new.hand)) c.run-ran.result.ran.journal refl c.requires.whole c.run-ran.ensures.leaves.run c.run-ran.result.ran.fault c.run-ran.ensures.fault

pub returns-in-Ok-clause-cause : goal.returns-in-Ok-clause-cause
returns-in-Ok-clause-cause g c = c.run-ran.ensures.leaves.caused

pub returns-in-Err-clause-cause : goal.returns-in-Err-clause-cause
returns-in-Err-clause-cause g c = nothing_caused (task_of c.args.declared c.args.aim (limits_by c.args.options (g.H.Hand.clock c.args.hand.now))) c.unopened.result.journal 0 _ c.unopened.ensures.journal

never_empty : (journal : List Entry) → (entry : Entry) × (rest : List Entry) × (journal ≡ entry ∷ rest) → journal ≡ [] → ⊥
never_empty journal begun e = let bad : begun.0 ∷ begun.1 ≡ [] = sym begun.2 ∙ e in cc bad

pub returns-in-Ok-clause-empty : goal.returns-in-Ok-clause-empty
returns-in-Ok-clause-empty g c = λ e. absurd (never_empty c.run-ran.result.ran.journal c.run-ran.ensures.leaves.begun e)

pub returns-in-Ok-clause-run : goal.returns-in-Ok-clause-run
returns-in-Ok-clause-run g c = if_any c.run-ran.result.ran.journal c.run-ran.ensures.leaves.run

pub returns-in-Ok-clause-log : goal.returns-in-Ok-clause-log
returns-in-Ok-clause-log g c = if_any c.run-ran.result.ran.journal c.run-ran.ensures.leaves.log

pub returns-in-Ok-clause-told : goal.returns-in-Ok-clause-told
returns-in-Ok-clause-told g c = if_any c.run-ran.result.ran.journal c.run-ran.ensures.leaves.told

pub returns-in-Ok-clause-timed : goal.returns-in-Ok-clause-timed
returns-in-Ok-clause-timed g c = if_any c.run-ran.result.ran.journal c.run-ran.ensures.leaves.timed

pub returns-in-Ok-clause-fault : goal.returns-in-Ok-clause-fault
returns-in-Ok-clause-fault g c = if_any c.run-ran.result.ran.journal c.run-ran.ensures.fault

pub returns-in-Ok-clause-report : goal.returns-in-Ok-clause-report
returns-in-Ok-clause-report g c = c.run-ran.ensures.report
