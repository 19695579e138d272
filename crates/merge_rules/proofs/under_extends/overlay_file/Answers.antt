use Rattle.merge_tables.specs.Answers.{turned}
use Rattle.merge_rules.specs.Overlay.{over_files}
use Rattle.merge_rules.specs.UnderExtends.{marks_allowed}
use Rattle.merge_tables.proofs.Answering.{fails_on, goes_on}
use Rattle.merge_rules.proofs.under_extends.overlay_file.Goals as goal

pub returns-in-Ok : goal.returns-in-Ok
returns-in-Ok c =
    let answer = goes_on (marks_allowed c.args.over.now) (λ ok. over_files c.args.base c.args.over.now) tt c.in-Ok.ensures in
    rw answer c.overlay_onto.ensures

pub returns-in-Err : goal.returns-in-Err
returns-in-Err c =
    rw c.from_root.ensures (fails_on (turned c.in-Err.refusal) (marks_allowed c.args.over.now) (λ ok. over_files c.args.base c.args.over.now) c.in-Err.ensures)
