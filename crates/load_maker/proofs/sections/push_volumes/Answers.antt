use Rattle.load_maker.specs.Texts.{volume_line}
use Rattle.load_maker.proofs.Rows.{lines_more}
use Rattle.load_maker.proofs.sections.push_volumes.Goals as goal

pub loop-service-preserved : goal.loop-service-preserved
loop-service-preserved c = lines_more volume_line c.args.text.now c.loop-service.text _ c.loop-service.service c.loop-service.invariant c.in_ok-push_volume.ensures
