use Rattle.std.proofs.Common.{◌∙◌, sym, arith}
use Rattle.yaml_groups.proofs.GroupSteps.{next_row}
use Rattle.yaml_groups.proofs.queue.Queue.next.Goals as goal

pub returns : goal.returns
returns c = sym c.self.view_is ∙ next_row c.self.inside.rows _ c.self.inside.at c.replace-row.result _ c.replace-row.ensures.old (omega arith) c.replace-row.ensures.new
