use Rattle.std.proofs.Common.{◌≡◌, ◌∙◌, Err, None, Some, ap, inr, refl, subst, sym, inl}
use Rattle.std.specs.Prelude.{IfErr, IfOk}
use Rattle.asked_project.specs.Asking.{command_of, options_asked}
use Rattle.asked_project.specs.Meaning.{meaning}
use Rattle.compose_config.proofs.Loads.{IfSome-map, asking_kind, asking_no_outside, command_is, for_project, if_loads, means_unrefused, no_words_refused, only_outside, said_exactly, said_read, said_words}
use Rattle.compose_config.proofs.Printed.{asked_prefix, asked_whole, page_complete, page_fault, page_kind, page_no_loading, page_no_read, page_no_words}
use Rattle.compose_config.specs.Commands.{GrewByPrefix, IsReadFault, page_asked, page_for}
use Rattle.asked_run.specs.Declaring.{declared_from}
use Rattle.compose_cli.proofs.Declaring.{asking_undeclared, digest_faults, digest_read, if_declared, if_declared_idle, loads_fault}
use Rattle.compose_cli.proofs.Ending.{asking_no_digest, beside, if_runs, no_config, only_reads, refused_with}
use Rattle.compose_cli.proofs.Circles.{spelled_acyclic}
use Rattle.compose_cli.proofs.Reachable.{reachable}
use Rattle.compose_cli.proofs.Ran.{asked, aims, idle, said_not_zero, unasked}
use Rattle.compose_cli.specs.Ends.{SendsNothing}
use Rattle.compose_cli.specs.Runs.{IsFaultOfReads, IsUndeclared}
use Rattle.file_digests.specs.declared.DigestRefusal.{DigestRefusal}
use Rattle.outside_files.specs.Sinks.{GrewBy}
use Rattle.refusals.proofs.AfterReads.{ends_after, ends_loaded, ends_said}
use Rattle.refusals.proofs.BeforeDial.{asking_before_dial}
use Rattle.refusals.specs.Origins.{IsOfLoading}
use Rattle.refusals.specs.Saying.{IsSaid}
use Rattle.refusals.specs.declared.Part.{Part}
use Rattle.ledger_run.specs.Tellings.{telling}
use Rattle.repeated_runs.proofs.Workers.{bounded}
use Rattle.repeated_runs.proofs.Asked.{runs_asked}
use Rattle.repeated_runs.proofs.Refusals.{said_before_dial}
use Rattle.repeated_runs.specs.Moments.{moment}
use Rattle.repeated_runs.proofs.top.compose_main.Goals as goal

pub returns-in-Some-clause-words : goal.returns-in-Some-clause-words
returns-in-Some-clause-words g c = no_words_refused c.args.words.now c.args.env.now _ c.in-Ok.asked.options c.in-Ok.ensures.options

pub returns-in-Some-clause-words_only : goal.returns-in-Some-clause-words_only
returns-in-Some-clause-words_only g c = λ refusal h e. absurd (c.run_asked.ensures.words refusal h e)

pub returns-in-Some-clause-loading : goal.returns-in-Some-clause-loading
returns-in-Some-clause-loading g c = IfSome-map (g.F.Files.told c.args.files.now) _ _ c.in-Ok.ensures.told (λ contents means. means_unrefused _ (meaning c.args.words.now c.args.env.now c.args.cwd.now contents) c.in-Ok.asked means)

pub returns-in-Some-clause-page : goal.returns-in-Some-clause-page
returns-in-Some-clause-page g c = λ config zero. absurd (no_config (command_of c.args.words.now c.args.env.now) c.in-Some.aim (asked c.args.words.now c.args.env.now c.in-Ok.asked.options.command c.aim_for.result c.in-Some.aim (command_is c.args.words.now c.args.env.now c.in-Ok.asked.options c.in-Ok.ensures.options) c.aim_for.ensures c.in-Some.is) config)

pub returns-in-Some-clause-page_prefix : goal.returns-in-Some-clause-page_prefix
returns-in-Some-clause-page_prefix g c = λ config. absurd (no_config (command_of c.args.words.now c.args.env.now) c.in-Some.aim (asked c.args.words.now c.args.env.now c.in-Ok.asked.options.command c.aim_for.result c.in-Some.aim (command_is c.args.words.now c.args.env.now c.in-Ok.asked.options c.in-Ok.ensures.options) c.aim_for.ensures c.in-Some.is) config)

pub returns-in-Some-clause-page_fault : goal.returns-in-Some-clause-page_fault
returns-in-Some-clause-page_fault g c = λ config e. absurd (no_config (command_of c.args.words.now c.args.env.now) c.in-Some.aim (asked c.args.words.now c.args.env.now c.in-Ok.asked.options.command c.aim_for.result c.in-Some.aim (command_is c.args.words.now c.args.env.now c.in-Ok.asked.options c.in-Ok.ensures.options) c.aim_for.ensures c.in-Some.is) config)

pub returns-in-Some-clause-page_kind : goal.returns-in-Some-clause-page_kind
returns-in-Some-clause-page_kind g c = λ config. absurd (no_config (command_of c.args.words.now c.args.env.now) c.in-Some.aim (asked c.args.words.now c.args.env.now c.in-Ok.asked.options.command c.aim_for.result c.in-Some.aim (command_is c.args.words.now c.args.env.now c.in-Ok.asked.options c.in-Ok.ensures.options) c.aim_for.ensures c.in-Some.is) config)

pub returns-in-Some-clause-page_complete : goal.returns-in-Some-clause-page_complete
returns-in-Some-clause-page_complete g c = λ config. absurd (no_config (command_of c.args.words.now c.args.env.now) c.in-Some.aim (asked c.args.words.now c.args.env.now c.in-Ok.asked.options.command c.aim_for.result c.in-Some.aim (command_is c.args.words.now c.args.env.now c.in-Ok.asked.options c.in-Ok.ensures.options) c.aim_for.ensures c.in-Some.is) config)

pub returns-in-None-clause-words : goal.returns-in-None-clause-words
returns-in-None-clause-words g c = no_words_refused c.args.words.now c.args.env.now _ c.in-Ok.asked.options c.in-Ok.ensures.options

pub returns-in-None-clause-words_only : goal.returns-in-None-clause-words_only
returns-in-None-clause-words_only g c = λ refusal h e. absurd (page_no_words (page_for c.in-Ok.asked.options.command c.in-Ok.asked.loaded.project) (g.O.Sink.written c.args.out.now) (g.O.Sink.written c.print_page.new.out) (g.O.Sink.faults c.args.out.now) (g.O.Sink.faults c.print_page.new.out) c.print_page.result.refusal refusal c.print_page.ensures.printed h e)

pub returns-in-None-clause-loading : goal.returns-in-None-clause-loading
returns-in-None-clause-loading g c = IfSome-map (g.F.Files.told c.args.files.now) _ _ c.in-Ok.ensures.told (λ contents means. means_unrefused _ (meaning c.args.words.now c.args.env.now c.args.cwd.now contents) c.in-Ok.asked means)

pub returns-in-None-clause-read_fault : goal.returns-in-None-clause-read_fault
returns-in-None-clause-read_fault g c = λ path e. absurd (page_no_read (page_for c.in-Ok.asked.options.command c.in-Ok.asked.loaded.project) (g.O.Sink.written c.args.out.now) (g.O.Sink.written c.print_page.new.out) (g.O.Sink.faults c.args.out.now) (g.O.Sink.faults c.print_page.new.out) c.print_page.result.refusal path c.print_page.ensures.printed e)

pub returns-in-None-clause-page : goal.returns-in-None-clause-page
returns-in-None-clause-page g c = λ config zero.
    for_project c.args.words.now c.args.env.now c.args.cwd.now (g.F.Files.told c.args.files.now) c.in-Ok.asked (λ loaded. GrewBy (g.O.Sink.written c.args.out.now) (page_asked (command_of c.args.words.now c.args.env.now) loaded.project) (g.O.Sink.written c.print_page.new.out)) c.in-Ok.ensures.told c.in-Ok.ensures.text
    (asked_whole (g.O.Sink.written c.args.out.now) (g.O.Sink.written c.print_page.new.out) (g.O.Sink.faults c.args.out.now) (g.O.Sink.faults c.print_page.new.out) (command_of c.args.words.now c.args.env.now) c.in-Ok.asked.options.command c.in-Ok.asked.loaded.project (command_is c.args.words.now c.args.env.now c.in-Ok.asked.options c.in-Ok.ensures.options) c.print_page.result.refusal (c.print_page.ensures.none.1 zero) c.print_page.ensures.printed)

pub returns-in-None-clause-page_prefix : goal.returns-in-None-clause-page_prefix
returns-in-None-clause-page_prefix g c = λ config. inr (
    for_project c.args.words.now c.args.env.now c.args.cwd.now (g.F.Files.told c.args.files.now) c.in-Ok.asked (λ loaded. GrewByPrefix (g.O.Sink.written c.args.out.now) (g.O.Sink.written c.print_page.new.out) (page_asked (command_of c.args.words.now c.args.env.now) loaded.project)) c.in-Ok.ensures.told c.in-Ok.ensures.text
    (asked_prefix (g.O.Sink.written c.args.out.now) (g.O.Sink.written c.print_page.new.out) (g.O.Sink.faults c.args.out.now) (g.O.Sink.faults c.print_page.new.out) (command_of c.args.words.now c.args.env.now) c.in-Ok.asked.options.command c.in-Ok.asked.loaded.project (command_is c.args.words.now c.args.env.now c.in-Ok.asked.options c.in-Ok.ensures.options) c.print_page.result.refusal c.print_page.ensures.printed))

pub returns-in-None-clause-page_fault : goal.returns-in-None-clause-page_fault
returns-in-None-clause-page_fault g c = λ config e. page_fault (page_for c.in-Ok.asked.options.command c.in-Ok.asked.loaded.project) (g.O.Sink.written c.args.out.now) (g.O.Sink.written c.print_page.new.out) (g.O.Sink.faults c.args.out.now) (g.O.Sink.faults c.print_page.new.out) c.print_page.result.refusal c.print_page.ensures.printed e

pub returns-in-None-clause-page_kind : goal.returns-in-None-clause-page_kind
returns-in-None-clause-page_kind g c = λ config. page_kind (page_for c.in-Ok.asked.options.command c.in-Ok.asked.loaded.project) (g.O.Sink.written c.args.out.now) (g.O.Sink.written c.print_page.new.out) (g.O.Sink.faults c.args.out.now) (g.O.Sink.faults c.print_page.new.out) c.print_page.result.refusal c.print_page.ensures.printed

pub returns-in-None-clause-page_complete : goal.returns-in-None-clause-page_complete
returns-in-None-clause-page_complete g c = λ config. if_loads c.args.words.now c.args.env.now c.args.cwd.now (g.F.Files.told c.args.files.now) _ (page_complete (page_for c.in-Ok.asked.options.command c.in-Ok.asked.loaded.project) (g.O.Sink.written c.args.out.now) (g.O.Sink.written c.print_page.new.out) (g.O.Sink.faults c.args.out.now) (g.O.Sink.faults c.print_page.new.out) (IsReadFault c.args.words.now c.args.env.now c.args.cwd.now (g.F.Files.told c.args.files.now) (g.F.Files.faults c.args.files.now) (g.F.Files.faults c.project_asked.new.files)) c.print_page.result.refusal c.print_page.ensures.printed)

pub returns-in-None-clause-run_complete : goal.returns-in-None-clause-run_complete
returns-in-None-clause-run_complete g c = λ loading. absurd (page_no_loading (page_for c.in-Ok.asked.options.command c.in-Ok.asked.loaded.project) (g.O.Sink.written c.args.out.now) (g.O.Sink.written c.print_page.new.out) (g.O.Sink.faults c.args.out.now) (g.O.Sink.faults c.print_page.new.out) c.print_page.result.refusal c.print_page.ensures.printed loading)

pub returns-in-None-clause-quiet : goal.returns-in-None-clause-quiet
returns-in-None-clause-quiet g c = λ loading. absurd (page_no_loading (page_for c.in-Ok.asked.options.command c.in-Ok.asked.loaded.project) (g.O.Sink.written c.args.out.now) (g.O.Sink.written c.print_page.new.out) (g.O.Sink.faults c.args.out.now) (g.O.Sink.faults c.print_page.new.out) c.print_page.result.refusal c.print_page.ensures.printed loading)

pub returns-in-Err-clause-words : goal.returns-in-Err-clause-words
returns-in-Err-clause-words g c = beside (options_asked c.args.words.now c.args.env.now) (λ refusal. IsSaid refusal c.refused.result.refusal) c.refused.ensures.nothing (said_words c.args.words.now c.args.env.now c.in-Err.refusal c.refused.result.refusal c.in-Err.ensures.words c.refused.ensures.refusal)

pub returns-in-Err-clause-words_only : goal.returns-in-Err-clause-words_only
returns-in-Err-clause-words_only g c = λ refusal h e. said_exactly c.args.words.now c.args.env.now c.in-Err.refusal refusal c.refused.result.refusal c.in-Err.ensures.words_only c.refused.ensures.refusal h e

pub returns-in-Err-clause-loading : goal.returns-in-Err-clause-loading
returns-in-Err-clause-loading g c = IfSome-map (g.F.Files.told c.args.files.now) _ _ c.in-Err.ensures.told (λ contents means. refused_with (meaning c.args.words.now c.args.env.now c.args.cwd.now contents) c.in-Err.refusal c.refused.result c.refused.ensures.nothing means c.refused.ensures.refusal)

pub returns-in-Err-clause-read_fault : goal.returns-in-Err-clause-read_fault
returns-in-Err-clause-read_fault g c = λ path e. c.in-Err.ensures.read path (ap Err (said_read c.in-Err.refusal c.refused.result.refusal path c.refused.ensures.refusal e))

pub returns-in-Err-clause-page : goal.returns-in-Err-clause-page
returns-in-Err-clause-page g c = λ config zero. absurd (said_not_zero c.in-Err.refusal c.refused.result.refusal c.refused.result.status c.refused.ensures.refusal c.refused.ensures.status zero)

pub returns-in-Err-clause-page_fault : goal.returns-in-Err-clause-page_fault
returns-in-Err-clause-page_fault g c = λ config e. absurd (asking_no_outside c.in-Err.refusal c.refused.result.refusal c.in-Err.ensures.kind c.refused.ensures.refusal Part.Out e)

pub returns-in-Err-clause-page_kind : goal.returns-in-Err-clause-page_kind
returns-in-Err-clause-page_kind g c = λ config. asking_kind c.in-Err.refusal c.refused.result.refusal c.in-Err.ensures.kind c.refused.ensures.refusal

pub returns-in-Err-clause-page_complete : goal.returns-in-Err-clause-page_complete
returns-in-Err-clause-page_complete g c = λ config. only_outside c.args.words.now c.args.env.now c.args.cwd.now (g.F.Files.told c.args.files.now) (g.F.Files.faults c.args.files.now) (g.F.Files.faults c.project_asked.new.files) (g.O.Sink.faults c.args.out.now) (g.O.Sink.faults c.args.out.now) c.in-Err.refusal c.refused.result.refusal c.in-Err.ensures.told (λ path e. c.in-Err.ensures.read path (ap Err e)) c.refused.ensures.refusal

pub returns-in-Err-clause-run_complete : goal.returns-in-Err-clause-run_complete
returns-in-Err-clause-run_complete g c = λ loading. loads_fault c.args.words.now c.args.env.now c.args.cwd.now (g.F.Files.told c.args.files.now) (g.F.Files.faults c.args.files.now) (g.F.Files.faults c.project_asked.new.files) c.refused.result.refusal (only_reads c.args.words.now c.args.env.now c.args.cwd.now (g.F.Files.told c.args.files.now) (g.F.Files.faults c.args.files.now) (g.F.Files.faults c.project_asked.new.files) c.in-Err.refusal c.refused.result.refusal c.in-Err.ensures.told (λ path e. c.in-Err.ensures.read path (ap Err e)) c.refused.ensures.refusal loading)

pub returns-in-Some-clause-config : goal.returns-in-Some-clause-config
returns-in-Some-clause-config g c = λ none. let bad : Some c.in-Some.aim ≡ None = sym (asked c.args.words.now c.args.env.now c.in-Ok.asked.options.command c.aim_for.result c.in-Some.aim (command_is c.args.words.now c.args.env.now c.in-Ok.asked.options c.in-Ok.ensures.options) c.aim_for.ensures c.in-Some.is) ∙ none in absurd (cc bad)

pub returns-in-Some-clause-read_fault : goal.returns-in-Some-clause-read_fault
returns-in-Some-clause-read_fault g c = λ path e. absurd (c.run_asked.ensures.load path e)

pub returns-in-Some-clause-declaring : goal.returns-in-Some-clause-declaring
returns-in-Some-clause-declaring g c = if_declared c.args.words.now c.args.env.now c.args.cwd.now (g.F.Files.told c.args.files.now) (g.F.Files.told c.project_asked.new.files) c.in-Ok.asked (λ meant. IfErr meant (λ refusal. SendsNothing c.run_asked.result.last × IsUndeclared refusal c.run_asked.result.last.refusal))
    c.project_asked.ensures.kept c.in-Ok.ensures.told (command_is c.args.words.now c.args.env.now c.in-Ok.asked.options c.in-Ok.ensures.options) c.run_asked.ensures.declaring

pub returns-in-Some-clause-digest_fault : goal.returns-in-Some-clause-digest_fault
returns-in-Some-clause-digest_fault g c = λ path e. digest_read c.args.words.now c.args.env.now c.args.cwd.now (g.F.Files.told c.args.files.now) (g.F.Files.faults c.args.files.now) (g.F.Files.faults c.run_asked.new.files) (g.F.Files.told c.project_asked.new.files) c.in-Ok.asked (g.F.Files.faults c.project_asked.new.files) path
    c.project_asked.ensures.kept c.in-Ok.ensures.options c.in-Ok.ensures.text c.project_asked.ensures.counted c.run_asked.ensures.counted (c.run_asked.ensures.digest path e)

pub returns-in-Some-clause-run_complete : goal.returns-in-Some-clause-run_complete
returns-in-Some-clause-run_complete g c = λ loading. if_declared c.args.words.now c.args.env.now c.args.cwd.now (g.F.Files.told c.args.files.now) (g.F.Files.told c.project_asked.new.files) c.in-Ok.asked
    (λ meant. IfOk meant (λ declared. IsFaultOfReads c.args.words.now c.args.env.now c.args.cwd.now (g.F.Files.told c.args.files.now) (g.F.Files.faults c.args.files.now) (g.F.Files.faults c.run_asked.new.files) c.run_asked.result.last.refusal))
    c.project_asked.ensures.kept c.in-Ok.ensures.told (command_is c.args.words.now c.args.env.now c.in-Ok.asked.options c.in-Ok.ensures.options)
    (IfSome-map (g.F.Files.told c.project_asked.new.files) _ _ (c.run_asked.ensures.complete loading) (λ contents. digest_faults c.args.words.now c.args.env.now c.args.cwd.now (g.F.Files.told c.args.files.now) (g.F.Files.faults c.args.files.now) (g.F.Files.faults c.run_asked.new.files) (g.F.Files.told c.project_asked.new.files) c.in-Ok.asked (g.F.Files.faults c.project_asked.new.files) c.run_asked.result.last.refusal
    c.project_asked.ensures.kept c.in-Ok.ensures.options c.in-Ok.ensures.text c.project_asked.ensures.counted c.run_asked.ensures.counted (declared_from contents c.in-Ok.asked.options.command c.in-Ok.asked.loaded)))

pub returns-in-None-clause-declaring : goal.returns-in-None-clause-declaring
returns-in-None-clause-declaring g c = if_declared_idle c.args.words.now c.args.env.now c.args.cwd.now (g.F.Files.told c.args.files.now) (λ meant. IfErr meant (λ refusal. SendsNothing c.print_page.result × IsUndeclared refusal c.print_page.result.refusal)) (unasked c.args.words.now c.args.env.now c.in-Ok.asked.options.command c.aim_for.result (command_is c.args.words.now c.args.env.now c.in-Ok.asked.options c.in-Ok.ensures.options) c.aim_for.ensures c.in-None.is)

pub returns-in-Err-clause-declaring : goal.returns-in-Err-clause-declaring
returns-in-Err-clause-declaring g c = asking_undeclared c.args.words.now c.args.env.now c.args.cwd.now (g.F.Files.told c.args.files.now) c.in-Err.refusal c.refused.result c.refused.ensures.nothing c.in-Err.ensures.told c.refused.ensures.refusal

pub returns-in-Err-clause-digest_fault : goal.returns-in-Err-clause-digest_fault
returns-in-Err-clause-digest_fault g c = λ path e. absurd (asking_no_digest c.in-Err.refusal c.refused.result.refusal (DigestRefusal.ReadFault path) c.in-Err.ensures.kind c.refused.ensures.refusal e)

pub returns-in-None-clause-digest_fault : goal.returns-in-None-clause-digest_fault
returns-in-None-clause-digest_fault g c = λ path e. absurd (page_no_loading (page_for c.in-Ok.asked.options.command c.in-Ok.asked.loaded.project) (g.O.Sink.written c.args.out.now) (g.O.Sink.written c.print_page.new.out) (g.O.Sink.faults c.args.out.now) (g.O.Sink.faults c.print_page.new.out) c.print_page.result.refusal c.print_page.ensures.printed (subst IsOfLoading (sym e) tt))

pub run_asked-requires-clause-reachable : goal.run_asked-requires-clause-reachable
run_asked-requires-clause-reachable g c κs within = reachable c.args.env.now c.args.words.now c.in-Ok.asked.options c.args.cwd.now c.in-Some.aim c.in-Ok.ensures.options (aims c.in-Ok.asked.options.command c.aim_for.result c.in-Some.aim c.aim_for.ensures c.in-Some.is)

pub run_asked-requires-clause-acyclic : goal.run_asked-requires-clause-acyclic
run_asked-requires-clause-acyclic g c κs within = spelled_acyclic c.args.words.now c.args.env.now c.args.cwd.now (g.F.Files.told c.args.files.now) c.in-Ok.asked.loaded c.in-Ok.ensures.text

pub run_asked-requires-clause-some : goal.run_asked-requires-clause-some
run_asked-requires-clause-some g c κs within = (bounded c.args.env.now c.args.words.now c.in-Ok.asked.options c.in-Ok.ensures.options).workers.0

pub run_asked-requires-clause-few : goal.run_asked-requires-clause-few
run_asked-requires-clause-few g c κs within = (bounded c.args.env.now c.args.words.now c.in-Ok.asked.options c.in-Ok.ensures.options).workers.1

pub returns-in-Some-clause-reads : goal.returns-in-Some-clause-reads
returns-in-Some-clause-reads g c = ends_after (g.F.Files.reads c.project_asked.new.files) (g.F.Files.reads c.run_asked.new.files) (g.F.Files.reads c.args.files.now) c.run_asked.result.last.refusal c.in-Ok.ensures.reads c.run_asked.ensures.reads

pub returns-in-None-clause-reads : goal.returns-in-None-clause-reads
returns-in-None-clause-reads g c = ends_loaded (g.F.Files.reads c.args.files.now) (g.F.Files.reads c.project_asked.new.files) c.print_page.result.refusal
    (page_no_loading (page_for c.in-Ok.asked.options.command c.in-Ok.asked.loaded.project) (g.O.Sink.written c.args.out.now) (g.O.Sink.written c.print_page.new.out) (g.O.Sink.faults c.args.out.now) (g.O.Sink.faults c.print_page.new.out) c.print_page.result.refusal c.print_page.ensures.printed) c.in-Ok.ensures.reads

pub returns-in-Err-clause-reads : goal.returns-in-Err-clause-reads
returns-in-Err-clause-reads g c = ends_said (g.F.Files.reads c.args.files.now) (g.F.Files.reads c.project_asked.new.files) c.in-Err.refusal c.refused.result.refusal c.refused.ensures.refusal c.in-Err.ensures.reads

pub returns-in-None-clause-nothing_sent : goal.returns-in-None-clause-nothing_sent
returns-in-None-clause-nothing_sent g c = λ loading. absurd (page_no_loading (page_for c.in-Ok.asked.options.command c.in-Ok.asked.loaded.project) (g.O.Sink.written c.args.out.now) (g.O.Sink.written c.print_page.new.out) (g.O.Sink.faults c.args.out.now) (g.O.Sink.faults c.print_page.new.out) c.print_page.result.refusal c.print_page.ensures.printed loading)

pub returns-in-Err-clause-nothing_sent : goal.returns-in-Err-clause-nothing_sent
returns-in-Err-clause-nothing_sent g c = λ loading. (c.refused.ensures.nothing, (c.new-in-Err.ensures, refl))

pub returns-in-None-clause-config : goal.returns-in-None-clause-config
returns-in-None-clause-config g c = λ none. record { once = (c.new.ensures, refl); nothing = c.print_page.ensures.nothing; dials = refl; dialled = refl }

pub returns-in-Err-clause-config : goal.returns-in-Err-clause-config
returns-in-Err-clause-config g c = λ none. record { once = (c.new-in-Err.ensures, refl); nothing = c.refused.ensures.nothing; dials = refl; dialled = refl }

pub returns-in-None-clause-attempts : goal.returns-in-None-clause-attempts
returns-in-None-clause-attempts g c = idle c.args.words.now c.args.env.now _ (unasked c.args.words.now c.args.env.now c.in-Ok.asked.options.command c.aim_for.result (command_is c.args.words.now c.args.env.now c.in-Ok.asked.options c.in-Ok.ensures.options) c.aim_for.ensures c.in-None.is)

pub returns-in-Err-clause-attempts : goal.returns-in-Err-clause-attempts
returns-in-Err-clause-attempts g c = if_runs c.args.words.now c.args.env.now _ (inl (record {
  asks = record { once = (c.new-in-Err.ensures, refl); nothing = c.refused.ensures.nothing; dials = refl; dialled = refl };
  refused = said_before_dial c.in-Err.refusal c.refused.result.refusal (asking_before_dial c.in-Err.refusal c.in-Err.ensures.kind) c.refused.ensures.refusal;
  written = refl;
}))

pub returns-in-Some-clause-attempts : goal.returns-in-Some-clause-attempts
returns-in-Some-clause-attempts g c = if_runs c.args.words.now c.args.env.now _ (runs_asked (λ h. telling (g.P.Hand.Hand.log h) (g.P.Hand.Hand.heard h) (g.P.Hand.Hand.faults h) (g.P.Hand.Hand.clock h) (g.P.Hand.Hand.engine h)) c.args.words.now c.args.env.now c.args.cwd.now (g.F.Files.told c.args.files.now) (g.F.Files.told c.project_asked.new.files) c.in-Some.aim c.in-Ok.asked c.run_asked.result
    (moment (g.P.Plug.dials c.args.plug.now) (g.P.Plug.dialled c.args.plug.now) (g.P.Plug.faults c.args.plug.now) (g.O.Sink.written c.args.out.now) (g.O.Sink.faults c.args.out.now))
    (moment (g.P.Plug.dials c.run_asked.new.plug) (g.P.Plug.dialled c.run_asked.new.plug) (g.P.Plug.faults c.run_asked.new.plug) (g.O.Sink.written c.run_asked.new.out) (g.O.Sink.faults c.run_asked.new.out))
    c.project_asked.ensures.kept c.in-Ok.ensures.options (command_is c.args.words.now c.args.env.now c.in-Ok.asked.options c.in-Ok.ensures.options)
    (aims c.in-Ok.asked.options.command c.aim_for.result c.in-Some.aim c.aim_for.ensures c.in-Some.is) c.in-Ok.ensures.told c.in-Ok.ensures.text c.run_asked.ensures.attempts)
