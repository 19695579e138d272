use Rattle.std.proofs.Common.{◌≡◌, ◌∙◌, ℕ, Err, Some, ap, length, refl, subst, sym}
use Rattle.std.specs.Prelude.{IfSome}
use Rattle.compose_cli.specs.Runs.{first_reading}
use Rattle.ledger_run.specs.Tellings.{telling}
use Rattle.project_run.specs.Options.{limits_in}
use Rattle.project_run.specs.Whole.{task_of}
use Rattle.repeated_runs.proofs.Onces.{left_without, lost_without, run_dialled, run_undialled, run_unplaced, written_without}
use Rattle.repeated_runs.specs.Dials.{IsDialHere, refusal_of}
use Rattle.repeated_runs.specs.Moments.{moment}
use Rattle.repeated_runs.specs.declared.dialling.DialFault.{DialFault}
use Rattle.repeated_runs.specs.Onces.{IsLeft, IsRunWith, WritesWhole}
use Rattle.project_run.specs.Options.{AreFor}
use Rattle.repeated_runs.proofs.once.run_once.Goals as goal

pub run_with-requires-clause-given : goal.run_with-requires-clause-given
run_with-requires-clause-given g c κs within = subst (λ (n : ℕ). AreFor n c.args.given) (sym (ap length c.from_vec.ensures ∙ c.in-Ok-dial_all.ensures.all)) c.requires.given

pub returns-in-Ok-dial_all-clause-run : goal.returns-in-Ok-dial_all-clause-run
returns-in-Ok-dial_all-clause-run g c =
    let many : length c.from_vec.result ≡ c.args.workers = ap length c.from_vec.ensures ∙ c.in-Ok-dial_all.ensures.all in
    run_dialled (λ h. telling (g.P.Hand.Hand.log h) (g.P.Hand.Hand.heard h) (g.P.Hand.Hand.faults h) (g.P.Hand.Hand.clock h) (g.P.Hand.Hand.engine h)) (IsDialHere c.args.place.now) c.args.workers (task_of c.args.declared c.args.aim (limits_in c.args.workers c.args.options c.args.given (first_reading (λ h. g.P.Hand.Hand.clock h) c.run_with.result.ended.hands))) c.run_with.result.ended c.dial_all.new.hands.items
    (moment (g.P.Plug.dials c.args.plug.now) (g.P.Plug.dialled c.args.plug.now) (g.P.Plug.faults c.args.plug.now) (g.O.Sink.written c.args.out.now) (g.O.Sink.faults c.args.out.now))
    (moment (g.P.Plug.dials c.dial_all.new.plug) (g.P.Plug.dialled c.dial_all.new.plug) (g.P.Plug.faults c.dial_all.new.plug) (g.O.Sink.written c.run_with.new.out) (g.O.Sink.faults c.run_with.new.out))
    (c.run_with.ensures.hands ∙ ap length c.from_vec.ensures) c.in-Ok-dial_all.ensures.dials c.dial_all.ensures.dialled
    (subst (λ (n : ℕ). IsRunWith (λ h. telling (g.P.Hand.Hand.log h) (g.P.Hand.Hand.heard h) (g.P.Hand.Hand.faults h) (g.P.Hand.Hand.clock h) (g.P.Hand.Hand.engine h)) (task_of c.args.declared c.args.aim (limits_in n c.args.options c.args.given (first_reading (λ h. g.P.Hand.Hand.clock h) c.run_with.result.ended.hands))) c.run_with.result.ended (g.O.Sink.written c.args.out.now) (g.O.Sink.written c.run_with.new.out) (g.O.Sink.faults c.args.out.now) (g.O.Sink.faults c.run_with.new.out)) many c.run_with.ensures.run)

pub returns-in-Ok-dial_all-clause-reported : goal.returns-in-Ok-dial_all-clause-reported
returns-in-Ok-dial_all-clause-reported g c = λ whole.
    let many : length c.from_vec.result ≡ c.args.workers = ap length c.from_vec.ensures ∙ c.in-Ok-dial_all.ensures.all in
    subst (λ (n : ℕ). WritesWhole (task_of c.args.declared c.args.aim (limits_in n c.args.options c.args.given (first_reading (λ h. g.P.Hand.Hand.clock h) c.run_with.result.ended.hands))) c.run_with.result.ended (g.O.Sink.written c.args.out.now) (g.O.Sink.written c.run_with.new.out)) many (c.run_with.ensures.reported whole)

pub returns-in-Ok-dial_all-clause-left : goal.returns-in-Ok-dial_all-clause-left
returns-in-Ok-dial_all-clause-left g c =
    let many : length c.from_vec.result ≡ c.args.workers = ap length c.from_vec.ensures ∙ c.in-Ok-dial_all.ensures.all in
    subst (λ (n : ℕ). IfSome c.run_with.result.left (IsLeft c.args.declared (limits_in n c.args.options c.args.given (first_reading (λ h. g.P.Hand.Hand.clock h) c.run_with.result.ended.hands)))) many c.run_with.ensures.left

pub returns-in-Err-clause-run : goal.returns-in-Err-clause-run
returns-in-Err-clause-run g c =
    run_undialled (λ h. telling (g.P.Hand.Hand.log h) (g.P.Hand.Hand.heard h) (g.P.Hand.Hand.faults h) (g.P.Hand.Hand.clock h) (g.P.Hand.Hand.engine h)) (IsDialHere c.args.place.now) c.args.workers (task_of c.args.declared c.args.aim (limits_in c.args.workers c.args.options c.args.given (first_reading (λ h. g.P.Hand.Hand.clock h) c.unrun-in-Err.result.ended.hands))) c.unrun-in-Err.result.ended c.dial_all.new.hands.items c.in-Err.fault
    (moment (g.P.Plug.dials c.args.plug.now) (g.P.Plug.dialled c.args.plug.now) (g.P.Plug.faults c.args.plug.now) (g.O.Sink.written c.args.out.now) (g.O.Sink.faults c.args.out.now))
    (moment (g.P.Plug.dials c.dial_all.new.plug) (g.P.Plug.dialled c.dial_all.new.plug) (g.P.Plug.faults c.dial_all.new.plug) (g.O.Sink.written c.args.out.now) (g.O.Sink.faults c.args.out.now))
    c.unrun-in-Err.ensures.journal (c.unrun-in-Err.ensures.hands ∙ c.from_vec-in-Err.ensures) (c.unrun-in-Err.ensures.refusal ∙ ap Some c.refusal_of.ensures) c.unrun-in-Err.ensures.status
    c.in-Err.ensures.dials c.dial_all.ensures.dialled c.dial_all.ensures.made (λ e. c.in-Err.ensures.fault (ap Err e)) refl

pub returns-in-Err-clause-reported : goal.returns-in-Err-clause-reported
returns-in-Err-clause-reported g c = λ whole. written_without (λ h. telling (g.P.Hand.Hand.log h) (g.P.Hand.Hand.heard h) (g.P.Hand.Hand.faults h) (g.P.Hand.Hand.clock h) (g.P.Hand.Hand.engine h)) (IsDialHere c.args.place.now) c.args.workers (task_of c.args.declared c.args.aim (limits_in c.args.workers c.args.options c.args.given (first_reading (λ h. g.P.Hand.Hand.clock h) c.unrun-in-Err.result.ended.hands))) c.unrun-in-Err.result.ended c.in-Err.fault (g.O.Sink.written c.args.out.now) (g.O.Sink.written c.args.out.now) (c.unrun-in-Err.ensures.refusal ∙ ap Some c.refusal_of.ensures)

pub returns-in-Err-clause-left : goal.returns-in-Err-clause-left
returns-in-Err-clause-left g c = left_without c.unrun-in-Err.result.left (IsLeft c.args.declared (limits_in c.args.workers c.args.options c.args.given (first_reading (λ h. g.P.Hand.Hand.clock h) c.unrun-in-Err.result.ended.hands))) c.unrun-in-Err.ensures.left

pub returns-in-Err-clause-lost : goal.returns-in-Err-clause-lost
returns-in-Err-clause-lost g c = λ none. lost_without c.unrun-in-Err.result.ended.refusal c.in-Err.fault (c.unrun-in-Err.ensures.refusal ∙ ap Some c.refusal_of.ensures)

pub returns-in_default-clause-run : goal.returns-in_default-clause-run
returns-in_default-clause-run g c =
    run_unplaced (λ h. telling (g.P.Hand.Hand.log h) (g.P.Hand.Hand.heard h) (g.P.Hand.Hand.faults h) (g.P.Hand.Hand.clock h) (g.P.Hand.Hand.engine h)) (IsDialHere c.args.place.now) c.args.workers (task_of c.args.declared c.args.aim (limits_in c.args.workers c.args.options c.args.given (first_reading (λ h. g.P.Hand.Hand.clock h) c.unrun.result.ended.hands))) c.unrun.result.ended
    (moment (g.P.Plug.dials c.args.plug.now) (g.P.Plug.dialled c.args.plug.now) (g.P.Plug.faults c.args.plug.now) (g.O.Sink.written c.args.out.now) (g.O.Sink.faults c.args.out.now))
    c.unrun.ensures.journal (c.unrun.ensures.hands ∙ c.new.ensures) c.unrun.ensures.refusal c.unrun.ensures.status

pub returns-in_default-clause-reported : goal.returns-in_default-clause-reported
returns-in_default-clause-reported g c = λ whole. written_without (λ h. telling (g.P.Hand.Hand.log h) (g.P.Hand.Hand.heard h) (g.P.Hand.Hand.faults h) (g.P.Hand.Hand.clock h) (g.P.Hand.Hand.engine h)) (IsDialHere c.args.place.now) c.args.workers (task_of c.args.declared c.args.aim (limits_in c.args.workers c.args.options c.args.given (first_reading (λ h. g.P.Hand.Hand.clock h) c.unrun.result.ended.hands))) c.unrun.result.ended DialFault.Memory (g.O.Sink.written c.args.out.now) (g.O.Sink.written c.args.out.now) c.unrun.ensures.refusal

pub returns-in_default-clause-left : goal.returns-in_default-clause-left
returns-in_default-clause-left g c = left_without c.unrun.result.left (IsLeft c.args.declared (limits_in c.args.workers c.args.options c.args.given (first_reading (λ h. g.P.Hand.Hand.clock h) c.unrun.result.ended.hands))) c.unrun.ensures.left

pub returns-in_default-clause-lost : goal.returns-in_default-clause-lost
returns-in_default-clause-lost g c = λ none. lost_without c.unrun.result.ended.refusal DialFault.Memory c.unrun.ensures.refusal
