use Rattle.std.proofs.Common.{◌≡◌, ◌∙◌, List, [], ◌∷◌, ◌++◌, Option, true, refl, ap}
use Rattle.std.specs.Prelude.{is_ok}
use Rattle.compose_cli.proofs.Ran.{ran_alone, ran_as, unwritten, within}
use Rattle.compose_cli.specs.Runs.{RanAlone}
use Rattle.engine_types.specs.declared.Engine.{Engine}
use Rattle.ledger_run.specs.Tellings.{telling}
use Rattle.outside_api.specs.Hands.{BeginsWith}
use Rattle.project_run.specs.Options.{limits_by}
use Rattle.project_run.specs.Whole.{IfBegun, task_of}
use Rattle.compose_cli.proofs.run.run_with.Goals as goal

pub run_project-journal-requires-clause-small : goal.run_project-journal-requires-clause-small
run_project-journal-requires-clause-small g c = λ slot m. (c.requires.own slot m).number

pub returns-clause-ran : goal.returns-clause-ran
returns-clause-ran g c =
    let ok : is_ok c.push.result ≡ true = c.push.ensures.succeeds c.requires.room in
    let grown : c.push.new.self.items ≡ c.args.hands.items ++ c.run_project-journal.new.hand ∷ [] = rw ok at c.push.ensures.items in
    let one : c.from_vec.result ≡ c.run_project-journal.new.hand ∷ [] = c.from_vec.ensures ∙ grown ∙ ap (λ (hands : List _). hands ++ c.run_project-journal.new.hand ∷ []) c.requires.empty in
    within (λ h. g.H.Hand.clock h) c.args.options c.from_vec.result c.run_project-journal.new.hand (λ limits. IfBegun c.run_project-journal.result.journal ((began : Option Engine) → BeginsWith began (g.H.Hand.engine c.args.hand) → RanAlone
    (λ h. telling (g.H.Hand.log h) (g.H.Hand.heard h) (g.H.Hand.faults h) (g.H.Hand.clock h) (g.H.Hand.engine h)) began (task_of c.args.declared c.args.aim limits) (record { status = c.status_of.result; journal = c.run_project-journal.result.journal; hands = c.from_vec.result; refusal = c.say_if_any-refusal.result })
    (g.O.Sink.written c.args.out.now) (g.O.Sink.written c.write_report.new.out) (g.O.Sink.faults c.args.out.now) (g.O.Sink.faults c.write_report.new.out))) one
    (ran_alone (λ h. telling (g.H.Hand.log h) (g.H.Hand.heard h) (g.H.Hand.faults h) (g.H.Hand.clock h) (g.H.Hand.engine h)) (task_of c.args.declared c.args.aim (limits_by c.args.options (g.H.Hand.clock c.run_project-journal.new.hand)))
    (record { status = c.status_of.result; journal = c.run_project-journal.result.journal; hands = c.from_vec.result; refusal = c.say_if_any-refusal.result }) c.args.hand c.run_project-journal.new.hand
    (g.O.Sink.written c.args.out.now) (g.O.Sink.written c.write_report.new.out) (g.O.Sink.faults c.args.out.now) (g.O.Sink.faults c.write_report.new.out)
    (ran_as (λ h. telling (g.H.Hand.log h) (g.H.Hand.heard h) (g.H.Hand.faults h) (g.H.Hand.clock h) (g.H.Hand.engine h)) (task_of c.args.declared c.args.aim (limits_by c.args.options (g.H.Hand.clock c.run_project-journal.new.hand))) c.run_project-journal.result.journal c.from_vec.result c.status_of.result
    c.run_project-journal.result.report c.run_project-journal.result.fault c.write_report.result c.say_if_any-refusal.result c.args.hand c.run_project-journal.new.hand
    (g.O.Sink.written c.args.out.now) (g.O.Sink.written c.write_report.new.out) (g.O.Sink.faults c.args.out.now) (g.O.Sink.faults c.write_report.new.out)
    refl c.requires.own c.run_project-journal.ensures.run c.run_project-journal.ensures.left c.run_project-journal.ensures.log c.run_project-journal.ensures.fault c.run_project-journal.ensures.timed c.run_project-journal.ensures.read_first c.run_project-journal.ensures.report c.run_project-journal.ensures.cause
    c.run_project-journal.ensures.kept c.run_project-journal.ensures.once c.run_project-journal.ensures.agreeing c.run_project-journal.ensures.rolls c.run_project-journal.ensures.exact c.run_project-journal.ensures.gone
    c.requires.unused c.requires.unread c.requires.unheard c.requires.faultless one c.write_report.ensures.refused c.write_report.ensures.written c.say_if_any-refusal.ensures.refusal c.status_of.ensures)
    c.run_project-journal.ensures.world one)

pub returns-clause-quiet_unbegun : goal.returns-clause-quiet_unbegun
returns-clause-quiet_unbegun g c =
    unwritten (g.O.Sink.faults c.args.out.now) (g.O.Sink.faults c.write_report.new.out) (task_of c.args.declared c.args.aim (limits_by c.args.options (g.H.Hand.clock c.run_project-journal.new.hand))) c.run_project-journal.result.journal c.run_project-journal.result.fault
    c.run_project-journal.result.report c.write_report.result (g.O.Sink.written c.args.out.now) (g.O.Sink.written c.write_report.new.out) c.run_project-journal.ensures.report c.write_report.ensures.written
