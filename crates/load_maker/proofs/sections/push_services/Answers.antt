use Rattle.load_maker.specs.Texts.{service_lines}
use Rattle.load_maker.proofs.Rows.{lines_more}
use Rattle.load_maker.proofs.sections.push_services.Goals as goal

pub loop-service-preserved : goal.loop-service-preserved
loop-service-preserved c = lines_more service_lines c.args.text.now c.loop-service.text _ c.loop-service.service c.loop-service.invariant c.in_ok-push_service.ensures
