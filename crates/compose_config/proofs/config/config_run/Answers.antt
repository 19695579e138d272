use Rattle.std.proofs.Common.{Err, ap, inr}
use Rattle.asked_project.specs.Asking.{command_of}
use Rattle.asked_project.specs.Meaning.{meaning}
use Rattle.compose_config.specs.Commands.{GrewByPrefix, IsReadFault, page_asked, page_for}
use Rattle.compose_config.proofs.Loads.{IfSome-map, asking_kind, asking_no_outside, command_is, for_project, if_loads, means_unrefused, no_words_refused, only_outside, said_exactly, said_read, said_refusal, said_some, said_words}
use Rattle.compose_config.proofs.Printed.{asked_prefix, asked_whole, page_complete, page_fault, page_kind, page_no_loading, page_no_read, page_no_words}
use Rattle.outside_files.specs.Sinks.{GrewBy}
use Rattle.refusals.proofs.AfterReads.{ends_loaded, ends_said}
use Rattle.refusals.specs.declared.Part.{Part}
use Rattle.compose_config.proofs.config.config_run.Goals as goal

pub returns-in-Ok-clause-words : goal.returns-in-Ok-clause-words
returns-in-Ok-clause-words g c = no_words_refused c.args.words.now c.args.env.now _ c.in-Ok.asked.options c.in-Ok.ensures.options

pub returns-in-Ok-clause-words_only : goal.returns-in-Ok-clause-words_only
returns-in-Ok-clause-words_only g c = λ refusal h e. absurd (page_no_words (page_for c.in-Ok.asked.options.command c.in-Ok.asked.loaded.project) (g.O.Sink.written c.args.out.now) (g.O.Sink.written c.print_asked.new.out) (g.O.Sink.faults c.args.out.now) (g.O.Sink.faults c.print_asked.new.out) c.print_asked.result.refusal refusal c.print_asked.ensures.printed h e)

pub returns-in-Ok-clause-loading : goal.returns-in-Ok-clause-loading
returns-in-Ok-clause-loading g c = IfSome-map (g.F.Files.told c.args.files.now) _ _ c.in-Ok.ensures.told (λ contents means. means_unrefused _ (meaning c.args.words.now c.args.env.now c.args.cwd.now contents) c.in-Ok.asked means)

pub returns-in-Ok-clause-kind : goal.returns-in-Ok-clause-kind
returns-in-Ok-clause-kind g c = page_kind (page_for c.in-Ok.asked.options.command c.in-Ok.asked.loaded.project) (g.O.Sink.written c.args.out.now) (g.O.Sink.written c.print_asked.new.out) (g.O.Sink.faults c.args.out.now) (g.O.Sink.faults c.print_asked.new.out) c.print_asked.result.refusal c.print_asked.ensures.printed

pub returns-in-Ok-clause-read_fault : goal.returns-in-Ok-clause-read_fault
returns-in-Ok-clause-read_fault g c = λ path e. absurd (page_no_read (page_for c.in-Ok.asked.options.command c.in-Ok.asked.loaded.project) (g.O.Sink.written c.args.out.now) (g.O.Sink.written c.print_asked.new.out) (g.O.Sink.faults c.args.out.now) (g.O.Sink.faults c.print_asked.new.out) c.print_asked.result.refusal path c.print_asked.ensures.printed e)

pub returns-in-Ok-clause-output_fault : goal.returns-in-Ok-clause-output_fault
returns-in-Ok-clause-output_fault g c = page_fault (page_for c.in-Ok.asked.options.command c.in-Ok.asked.loaded.project) (g.O.Sink.written c.args.out.now) (g.O.Sink.written c.print_asked.new.out) (g.O.Sink.faults c.args.out.now) (g.O.Sink.faults c.print_asked.new.out) c.print_asked.result.refusal c.print_asked.ensures.printed

pub returns-in-Ok-clause-page : goal.returns-in-Ok-clause-page
returns-in-Ok-clause-page g c = λ zero.
    for_project c.args.words.now c.args.env.now c.args.cwd.now (g.F.Files.told c.args.files.now) c.in-Ok.asked (λ loaded. GrewBy (g.O.Sink.written c.args.out.now) (page_asked (command_of c.args.words.now c.args.env.now) loaded.project) (g.O.Sink.written c.print_asked.new.out)) c.in-Ok.ensures.told c.in-Ok.ensures.text
    (asked_whole (g.O.Sink.written c.args.out.now) (g.O.Sink.written c.print_asked.new.out) (g.O.Sink.faults c.args.out.now) (g.O.Sink.faults c.print_asked.new.out) (command_of c.args.words.now c.args.env.now) c.in-Ok.asked.options.command c.in-Ok.asked.loaded.project (command_is c.args.words.now c.args.env.now c.in-Ok.asked.options c.in-Ok.ensures.options) c.print_asked.result.refusal (c.print_asked.ensures.none.1 zero) c.print_asked.ensures.printed)

pub returns-in-Ok-clause-prefix : goal.returns-in-Ok-clause-prefix
returns-in-Ok-clause-prefix g c = inr (
    for_project c.args.words.now c.args.env.now c.args.cwd.now (g.F.Files.told c.args.files.now) c.in-Ok.asked (λ loaded. GrewByPrefix (g.O.Sink.written c.args.out.now) (g.O.Sink.written c.print_asked.new.out) (page_asked (command_of c.args.words.now c.args.env.now) loaded.project)) c.in-Ok.ensures.told c.in-Ok.ensures.text
    (asked_prefix (g.O.Sink.written c.args.out.now) (g.O.Sink.written c.print_asked.new.out) (g.O.Sink.faults c.args.out.now) (g.O.Sink.faults c.print_asked.new.out) (command_of c.args.words.now c.args.env.now) c.in-Ok.asked.options.command c.in-Ok.asked.loaded.project (command_is c.args.words.now c.args.env.now c.in-Ok.asked.options c.in-Ok.ensures.options) c.print_asked.result.refusal c.print_asked.ensures.printed))

pub returns-in-Ok-clause-quiet : goal.returns-in-Ok-clause-quiet
returns-in-Ok-clause-quiet g c = λ loading. absurd (page_no_loading (page_for c.in-Ok.asked.options.command c.in-Ok.asked.loaded.project) (g.O.Sink.written c.args.out.now) (g.O.Sink.written c.print_asked.new.out) (g.O.Sink.faults c.args.out.now) (g.O.Sink.faults c.print_asked.new.out) c.print_asked.result.refusal c.print_asked.ensures.printed loading)

pub returns-in-Ok-clause-reads : goal.returns-in-Ok-clause-reads
returns-in-Ok-clause-reads g c = ends_loaded (g.F.Files.reads c.args.files.now) (g.F.Files.reads c.project_asked.new.files) c.print_asked.result.refusal
    (page_no_loading (page_for c.in-Ok.asked.options.command c.in-Ok.asked.loaded.project) (g.O.Sink.written c.args.out.now) (g.O.Sink.written c.print_asked.new.out) (g.O.Sink.faults c.args.out.now) (g.O.Sink.faults c.print_asked.new.out) c.print_asked.result.refusal c.print_asked.ensures.printed) c.in-Ok.ensures.reads

pub returns-in-Ok-clause-complete : goal.returns-in-Ok-clause-complete
returns-in-Ok-clause-complete g c = if_loads c.args.words.now c.args.env.now c.args.cwd.now (g.F.Files.told c.args.files.now) _ (page_complete (page_for c.in-Ok.asked.options.command c.in-Ok.asked.loaded.project) (g.O.Sink.written c.args.out.now) (g.O.Sink.written c.print_asked.new.out) (g.O.Sink.faults c.args.out.now) (g.O.Sink.faults c.print_asked.new.out) (IsReadFault c.args.words.now c.args.env.now c.args.cwd.now (g.F.Files.told c.args.files.now) (g.F.Files.faults c.args.files.now) (g.F.Files.faults c.project_asked.new.files)) c.print_asked.result.refusal c.print_asked.ensures.printed)

pub returns-in-Err-clause-words : goal.returns-in-Err-clause-words
returns-in-Err-clause-words g c = said_words c.args.words.now c.args.env.now c.in-Err.refusal c.ended.result.refusal c.in-Err.ensures.words c.ended.ensures.refusal

pub returns-in-Err-clause-words_only : goal.returns-in-Err-clause-words_only
returns-in-Err-clause-words_only g c = λ refusal h e. said_exactly c.args.words.now c.args.env.now c.in-Err.refusal refusal c.ended.result.refusal c.in-Err.ensures.words_only c.ended.ensures.refusal h e

pub returns-in-Err-clause-loading : goal.returns-in-Err-clause-loading
returns-in-Err-clause-loading g c = IfSome-map (g.F.Files.told c.args.files.now) _ _ c.in-Err.ensures.told (λ contents means. said_refusal (meaning c.args.words.now c.args.env.now c.args.cwd.now contents) c.in-Err.refusal c.ended.result.refusal means c.ended.ensures.refusal)

pub returns-in-Err-clause-kind : goal.returns-in-Err-clause-kind
returns-in-Err-clause-kind g c = asking_kind c.in-Err.refusal c.ended.result.refusal c.in-Err.ensures.kind c.ended.ensures.refusal

pub returns-in-Err-clause-read_fault : goal.returns-in-Err-clause-read_fault
returns-in-Err-clause-read_fault g c = λ path e. c.in-Err.ensures.read path (ap Err (said_read c.in-Err.refusal c.ended.result.refusal path c.ended.ensures.refusal e))

pub returns-in-Err-clause-output_fault : goal.returns-in-Err-clause-output_fault
returns-in-Err-clause-output_fault g c = λ e. absurd (asking_no_outside c.in-Err.refusal c.ended.result.refusal c.in-Err.ensures.kind c.ended.ensures.refusal Part.Out e)

pub returns-in-Err-clause-reads : goal.returns-in-Err-clause-reads
returns-in-Err-clause-reads g c = ends_said (g.F.Files.reads c.args.files.now) (g.F.Files.reads c.project_asked.new.files) c.in-Err.refusal c.ended.result.refusal c.ended.ensures.refusal c.in-Err.ensures.reads

pub returns-in-Err-clause-page : goal.returns-in-Err-clause-page
returns-in-Err-clause-page g c = λ zero. absurd (said_some c.in-Err.refusal c.ended.result.refusal c.ended.ensures.refusal (c.ended.ensures.none.1 zero))

pub returns-in-Err-clause-complete : goal.returns-in-Err-clause-complete
returns-in-Err-clause-complete g c = only_outside c.args.words.now c.args.env.now c.args.cwd.now (g.F.Files.told c.args.files.now) (g.F.Files.faults c.args.files.now) (g.F.Files.faults c.project_asked.new.files) (g.O.Sink.faults c.args.out.now) (g.O.Sink.faults c.args.out.now) c.in-Err.refusal c.ended.result.refusal c.in-Err.ensures.told (λ path e. c.in-Err.ensures.read path (ap Err e)) c.ended.ensures.refusal
