use Rattle.std.proofs.Common.{◌≡◌, Err, ap, inl, inr, refl, subst, sym}
use Rattle.asked_run.specs.Declaring.{declared_from}
use Rattle.compose_cli.proofs.Declaring.{declared_unrefused, declaring_no_load, declaring_no_words, for_declared_by, only_digests, refused_undeclared, said_digest}
use Rattle.compose_cli.proofs.Dialled.{dial_for}
use Rattle.compose_cli.proofs.Ending.{no_words}
use Rattle.compose_cli.specs.Dialling.{IsDialAt, IsDialFor}
use Rattle.compose_cli.specs.Runs.{options_for}
use Rattle.compose_config.proofs.Loads.{IfSome-map}
use Rattle.ledger_run.specs.Tellings.{telling}
use Rattle.project_run.specs.Whole.{task_of}
use Rattle.refusals.proofs.AfterReads.{ends_loaded, ends_said}
use Rattle.refusals.proofs.BeforeDial.{declaring_before_dial}
use Rattle.refusals.specs.Origins.{IsOfLoading}
use Rattle.repeated_runs.proofs.Places.{attempts_at}
use Rattle.repeated_runs.proofs.Refusals.{said_before_dial}
use Rattle.repeated_runs.specs.Calls.{first_reading_of}
use Rattle.repeated_runs.specs.Followings.{task_by}
use Rattle.repeated_runs.specs.Moments.{moment}
use Rattle.run_model.specs.Runs.{limits_of}
use Rattle.repeated_runs.proofs.running.run_asked.Goals as goal

pub returns-in-Ok-clause-declaring : goal.returns-in-Ok-clause-declaring
returns-in-Ok-clause-declaring g c = IfSome-map (g.F.Files.told c.args.files.now) _ _ c.in-Ok.ensures.told (λ contents means. declared_unrefused _ (declared_from contents c.args.asked.options.command c.args.asked.loaded) c.in-Ok.declared means)

pub returns-in-Ok-clause-complete : goal.returns-in-Ok-clause-complete
returns-in-Ok-clause-complete g c = λ loading. absurd (c.run_declared.ensures.attempts.last.origin loading)

pub returns-in-Ok-clause-digest : goal.returns-in-Ok-clause-digest
returns-in-Ok-clause-digest g c = λ path e. absurd (c.run_declared.ensures.attempts.last.origin (subst IsOfLoading (sym e) tt))

pub returns-in-Ok-clause-words : goal.returns-in-Ok-clause-words
returns-in-Ok-clause-words g c = λ refusal h e. no_words c.run_declared.result.last.refusal refusal c.run_declared.ensures.attempts.last.origin h e

pub returns-in-Ok-clause-load : goal.returns-in-Ok-clause-load
returns-in-Ok-clause-load g c = λ path e. c.run_declared.ensures.attempts.last.origin (subst IsOfLoading (sym e) tt)

pub returns-in-Ok-clause-nothing_sent : goal.returns-in-Ok-clause-nothing_sent
returns-in-Ok-clause-nothing_sent g c = λ loading. absurd (c.run_declared.ensures.attempts.last.origin loading)

pub returns-in-Ok-clause-quiet_loading : goal.returns-in-Ok-clause-quiet_loading
returns-in-Ok-clause-quiet_loading g c = λ loading. absurd (c.run_declared.ensures.attempts.last.origin loading)

pub returns-in-Err-clause-declaring : goal.returns-in-Err-clause-declaring
returns-in-Err-clause-declaring g c = IfSome-map (g.F.Files.told c.args.files.now) _ _ c.in-Err.ensures.told (λ contents means. refused_undeclared (declared_from contents c.args.asked.options.command c.args.asked.loaded) c.in-Err.refusal c.refused.result c.refused.ensures.nothing means c.refused.ensures.refusal)

pub returns-in-Err-clause-complete : goal.returns-in-Err-clause-complete
returns-in-Err-clause-complete g c = λ loading. IfSome-map (g.F.Files.told c.args.files.now) _ _ c.in-Err.ensures.told (λ contents means.
    only_digests c.args.asked.options.command c.args.asked.loaded.project (g.F.Files.told c.args.files.now) (g.F.Files.faults c.args.files.now) (g.F.Files.faults c.declared_asked.new.files)
    (declared_from contents c.args.asked.options.command c.args.asked.loaded) c.in-Err.refusal c.refused.result.refusal c.in-Err.ensures.kind means c.in-Err.ensures.read c.refused.ensures.refusal loading)

pub returns-in-Err-clause-digest : goal.returns-in-Err-clause-digest
returns-in-Err-clause-digest g c = λ path e. c.in-Err.ensures.read path (ap Err (said_digest c.in-Err.refusal c.refused.result.refusal path c.refused.ensures.refusal e))

pub returns-in-Err-clause-words : goal.returns-in-Err-clause-words
returns-in-Err-clause-words g c = λ refusal h e. declaring_no_words c.in-Err.refusal refusal c.refused.result.refusal c.in-Err.ensures.kind c.refused.ensures.refusal h e

pub returns-in-Err-clause-load : goal.returns-in-Err-clause-load
returns-in-Err-clause-load g c = λ path e. declaring_no_load c.in-Err.refusal c.refused.result.refusal path c.in-Err.ensures.kind c.refused.ensures.refusal e

pub returns-in-Ok-clause-reads : goal.returns-in-Ok-clause-reads
returns-in-Ok-clause-reads g c = ends_loaded (g.F.Files.reads c.args.files.now) (g.F.Files.reads c.declared_asked.new.files) c.run_declared.result.last.refusal c.run_declared.ensures.attempts.last.origin c.in-Ok.ensures.reads

pub returns-in-Err-clause-reads : goal.returns-in-Err-clause-reads
returns-in-Err-clause-reads g c = ends_said (g.F.Files.reads c.args.files.now) (g.F.Files.reads c.declared_asked.new.files) c.in-Err.refusal c.refused.result.refusal c.refused.ensures.refusal c.in-Err.ensures.reads

pub returns-in-Err-clause-nothing_sent : goal.returns-in-Err-clause-nothing_sent
returns-in-Err-clause-nothing_sent g c = λ loading. (c.refused.ensures.nothing, (c.new.ensures, refl))

pub returns-in-Err-clause-attempts : goal.returns-in-Err-clause-attempts
returns-in-Err-clause-attempts g c = inl (record {
  asks = record { once = (c.new.ensures, refl); nothing = c.refused.ensures.nothing; dials = refl; dialled = refl };
  refused = said_before_dial c.in-Err.refusal c.refused.result.refusal (declaring_before_dial c.in-Err.refusal c.in-Err.ensures.kind) c.refused.ensures.refusal;
  written = refl;
})

pub returns-in-Ok-clause-attempts : goal.returns-in-Ok-clause-attempts
returns-in-Ok-clause-attempts g c = inr (
  (task_by (λ h. telling (g.P.Hand.Hand.log h) (g.P.Hand.Hand.heard h) (g.P.Hand.Hand.faults h) (g.P.Hand.Hand.clock h) (g.P.Hand.Hand.engine h)) c.in-Ok.declared c.args.aim c.options_for-options.result c.args.asked.options.parallel c.run_declared.result.earlier c.run_declared.result.last),
  for_declared_by (g.F.Files.told c.args.files.now) c.args.asked.options.command c.args.asked.loaded c.in-Ok.declared c.options_for-options.result (options_for c.args.asked.options.command)
      (λ declared bounds. (task_by (λ h. telling (g.P.Hand.Hand.log h) (g.P.Hand.Hand.heard h) (g.P.Hand.Hand.faults h) (g.P.Hand.Hand.clock h) (g.P.Hand.Hand.engine h)) c.in-Ok.declared c.args.aim c.options_for-options.result c.args.asked.options.parallel c.run_declared.result.earlier c.run_declared.result.last) ≡ task_of declared c.args.aim (limits_of c.args.asked.options.parallel bounds (first_reading_of (λ h. telling (g.P.Hand.Hand.log h) (g.P.Hand.Hand.heard h) (g.P.Hand.Hand.faults h) (g.P.Hand.Hand.clock h) (g.P.Hand.Hand.engine h)) c.run_declared.result)))
      c.options_for-options.ensures c.in-Ok.ensures.told c.in-Ok.ensures.declared refl,
  attempts_at (λ h. telling (g.P.Hand.Hand.log h) (g.P.Hand.Hand.heard h) (g.P.Hand.Hand.faults h) (g.P.Hand.Hand.clock h) (g.P.Hand.Hand.engine h)) (IsDialAt c.place_asked-place.result) (IsDialFor c.args.asked.options c.args.env.now c.args.cwd.now)
      (dial_for c.args.asked.options c.args.env.now c.args.cwd.now c.place_asked-place.result c.place_asked-place.ensures.target c.place_asked-place.ensures.stop_file) c.args.asked.options.parallel (task_by (λ h. telling (g.P.Hand.Hand.log h) (g.P.Hand.Hand.heard h) (g.P.Hand.Hand.faults h) (g.P.Hand.Hand.clock h) (g.P.Hand.Hand.engine h)) c.in-Ok.declared c.args.aim c.options_for-options.result c.args.asked.options.parallel c.run_declared.result.earlier c.run_declared.result.last) c.run_declared.result
      (moment (g.P.Plug.dials c.args.plug.now) (g.P.Plug.dialled c.args.plug.now) (g.P.Plug.faults c.args.plug.now) (g.O.Sink.written c.args.out.now) (g.O.Sink.faults c.args.out.now))
      (moment (g.P.Plug.dials c.run_declared.new.plug) (g.P.Plug.dialled c.run_declared.new.plug) (g.P.Plug.faults c.run_declared.new.plug) (g.O.Sink.written c.run_declared.new.out) (g.O.Sink.faults c.run_declared.new.out))
      c.run_declared.ensures.attempts,
)
