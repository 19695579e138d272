use Rattle.compose_config.specs.Commands.{page_for}
use Rattle.compose_config.proofs.Printed.{page_said}
use Rattle.compose_config.proofs.config.print_asked.Goals as goal

pub returns-clause-printed : goal.returns-clause-printed
returns-clause-printed g c =
    page_said (page_for c.args.asked.now.options.command c.args.asked.now.loaded.project) (g.O.Sink.written c.args.out.now) (g.O.Sink.written c.write_asked-refusal.new.out) (g.O.Sink.faults c.args.out.now) (g.O.Sink.faults c.write_asked-refusal.new.out)
    c.write_asked-refusal.result c.ended.result.refusal c.ended.ensures.refusal c.write_asked-refusal.ensures
