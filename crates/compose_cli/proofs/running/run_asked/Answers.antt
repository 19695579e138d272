use Rattle.std.proofs.Common.{Err, ap, length, subst, sym}
use Rattle.asked_run.specs.Declaring.{declared_from}
use Rattle.compose_cli.proofs.Declaring.{declared_unrefused, declaring_no_load, declaring_no_outside, declaring_no_words, declaring_unbegun, for_declared_by, only_digests, refused_undeclared, said_digest}
use Rattle.compose_cli.proofs.Dialled.{dial_for, dials_by, undialled}
use Rattle.compose_cli.proofs.Ending.{counts_none, no_words}
use Rattle.compose_cli.proofs.Ran.{if_begun}
use Rattle.compose_cli.specs.Dialling.{IsDialAt, IsDialFor}
use Rattle.compose_cli.specs.Runs.{RanAlone, first_reading, options_for}
use Rattle.compose_config.proofs.Loads.{IfSome-map}
use Rattle.ledger_run.specs.Tellings.{telling}
use Rattle.project_run.specs.Whole.{task_of}
use Rattle.refusals.specs.Origins.{IsOfLoading}
use Rattle.refusals.specs.declared.Part.{Part}
use Rattle.run_model.specs.Runs.{limits_of}
use Rattle.refusals.proofs.AfterReads.{ends_loaded, ends_said}
use Rattle.compose_cli.proofs.running.run_asked.Goals as goal

pub returns-in-Ok-clause-declaring : goal.returns-in-Ok-clause-declaring
returns-in-Ok-clause-declaring g c = IfSome-map (g.F.Files.told c.args.files.now) _ _ c.in-Ok.ensures.told (λ contents means. declared_unrefused _ (declared_from contents c.args.asked.options.command c.args.asked.loaded) c.in-Ok.declared means)

pub returns-in-Ok-clause-complete : goal.returns-in-Ok-clause-complete
returns-in-Ok-clause-complete g c = λ loading. absurd (c.run_declared.ensures.origin loading)

pub returns-in-Ok-clause-digest : goal.returns-in-Ok-clause-digest
returns-in-Ok-clause-digest g c = λ path e. absurd (c.run_declared.ensures.origin (subst IsOfLoading (sym e) tt))

pub returns-in-Ok-clause-words : goal.returns-in-Ok-clause-words
returns-in-Ok-clause-words g c = λ refusal h e. no_words c.run_declared.result.refusal refusal c.run_declared.ensures.origin h e

pub returns-in-Ok-clause-load : goal.returns-in-Ok-clause-load
returns-in-Ok-clause-load g c = λ path e. c.run_declared.ensures.origin (subst IsOfLoading (sym e) tt)

pub returns-in-Ok-clause-nothing_sent : goal.returns-in-Ok-clause-nothing_sent
returns-in-Ok-clause-nothing_sent g c = λ loading. absurd (c.run_declared.ensures.origin loading)

pub returns-in-Ok-clause-quiet_loading : goal.returns-in-Ok-clause-quiet_loading
returns-in-Ok-clause-quiet_loading g c = λ loading. absurd (c.run_declared.ensures.origin loading)

pub returns-in-Ok-clause-ran : goal.returns-in-Ok-clause-ran
returns-in-Ok-clause-ran g c = if_begun c.run_declared.result.journal c.run_declared.ensures.ran (λ ran.
    for_declared_by (g.F.Files.told c.args.files.now) c.args.asked.options.command c.args.asked.loaded c.in-Ok.declared c.options_for-options.result (options_for c.args.asked.options.command) (λ declared bounds. RanAlone
    (λ h. telling (g.P.Hand.Hand.log h) (g.P.Hand.Hand.heard h) (g.P.Hand.Hand.faults h) (g.P.Hand.Hand.clock h) (g.P.Hand.Hand.engine h)) (g.P.Plug.engine c.args.plug.now)
    (task_of declared c.args.aim (limits_of 1 bounds (first_reading (λ h. g.P.Hand.Hand.clock h) c.run_declared.result.hands))) c.run_declared.result
    (g.O.Sink.written c.args.out.now) (g.O.Sink.written c.run_declared.new.out) (g.O.Sink.faults c.args.out.now) (g.O.Sink.faults c.run_declared.new.out))
    c.options_for-options.ensures c.in-Ok.ensures.told c.in-Ok.ensures.declared ran)

pub returns-in-Ok-clause-dials : goal.returns-in-Ok-clause-dials
returns-in-Ok-clause-dials g c = dials_by (IsDialAt c.place_asked-place.result) (IsDialFor c.args.asked.options c.args.env.now c.args.cwd.now) 1 (g.P.Plug.dials c.args.plug.now) (g.P.Plug.dials c.run_declared.new.plug) (length c.run_declared.result.hands) c.run_declared.result.refusal
    (dial_for c.args.asked.options c.args.env.now c.args.cwd.now c.place_asked-place.result c.place_asked-place.ensures.target c.place_asked-place.ensures.stop_file) c.run_declared.ensures.dials

pub returns-in-Err-clause-dials : goal.returns-in-Err-clause-dials
returns-in-Err-clause-dials g c = undialled (IsDialFor c.args.asked.options c.args.env.now c.args.cwd.now) 1 (g.P.Plug.dials c.args.plug.now) c.refused.result.hands c.refused.result.refusal c.refused.ensures.nothing.0
    (λ e. declaring_no_outside c.in-Err.refusal c.refused.result.refusal Part.Plug c.in-Err.ensures.kind c.refused.ensures.refusal e)

pub returns-in-Err-clause-declaring : goal.returns-in-Err-clause-declaring
returns-in-Err-clause-declaring g c = IfSome-map (g.F.Files.told c.args.files.now) _ _ c.in-Err.ensures.told (λ contents means. refused_undeclared (declared_from contents c.args.asked.options.command c.args.asked.loaded) c.in-Err.refusal c.refused.result c.refused.ensures.nothing means c.refused.ensures.refusal)

pub returns-in-Err-clause-complete : goal.returns-in-Err-clause-complete
returns-in-Err-clause-complete g c = λ loading. IfSome-map (g.F.Files.told c.args.files.now) _ _ c.in-Err.ensures.told (λ contents means.
    only_digests c.args.asked.options.command c.args.asked.loaded.project (g.F.Files.told c.args.files.now) (g.F.Files.faults c.args.files.now) (g.F.Files.faults c.declared_asked.new.files)
    (declared_from contents c.args.asked.options.command c.args.asked.loaded) c.in-Err.refusal c.refused.result.refusal c.in-Err.ensures.kind means c.in-Err.ensures.read c.refused.ensures.refusal loading)

pub returns-in-Err-clause-digest : goal.returns-in-Err-clause-digest
returns-in-Err-clause-digest g c = λ path e. c.in-Err.ensures.read path (ap Err (said_digest c.in-Err.refusal c.refused.result.refusal path c.refused.ensures.refusal e))

pub returns-in-Err-clause-words : goal.returns-in-Err-clause-words
returns-in-Err-clause-words g c = λ refusal h e. declaring_no_words c.in-Err.refusal refusal c.refused.result.refusal c.in-Err.ensures.kind c.refused.ensures.refusal h e

pub returns-in-Err-clause-load : goal.returns-in-Err-clause-load
returns-in-Err-clause-load g c = λ path e. declaring_no_load c.in-Err.refusal c.refused.result.refusal path c.in-Err.ensures.kind c.refused.ensures.refusal e

pub returns-in-Err-clause-dial : goal.returns-in-Err-clause-dial
returns-in-Err-clause-dial g c = λ e. absurd (declaring_no_outside c.in-Err.refusal c.refused.result.refusal Part.Plug c.in-Err.ensures.kind c.refused.ensures.refusal e)

pub returns-in-Err-clause-dialled : goal.returns-in-Err-clause-dialled
returns-in-Err-clause-dialled g c = counts_none (g.P.Plug.dialled c.args.plug.now) c.refused.result c.refused.ensures.nothing

pub returns-in-Err-clause-unbegun : goal.returns-in-Err-clause-unbegun
returns-in-Err-clause-unbegun g c = λ empty. declaring_unbegun c.in-Err.refusal c.refused.result.refusal c.in-Err.ensures.kind c.refused.ensures.refusal

pub returns-in-Ok-clause-reads : goal.returns-in-Ok-clause-reads
returns-in-Ok-clause-reads g c = ends_loaded (g.F.Files.reads c.args.files.now) (g.F.Files.reads c.declared_asked.new.files) c.run_declared.result.refusal c.run_declared.ensures.origin c.in-Ok.ensures.reads

pub returns-in-Err-clause-reads : goal.returns-in-Err-clause-reads
returns-in-Err-clause-reads g c = ends_said (g.F.Files.reads c.args.files.now) (g.F.Files.reads c.declared_asked.new.files) c.in-Err.refusal c.refused.result.refusal c.refused.ensures.refusal c.in-Err.ensures.reads
