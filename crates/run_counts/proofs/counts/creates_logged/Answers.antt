use Rattle.std.proofs.Common.{◌∙◌}
use Rattle.run_counts.proofs.Looking.{creates_of_whole}
use Rattle.run_counts.proofs.counts.creates_logged.Goals as goal

pub returns : goal.returns
returns c = c.creates.ensures ∙ creates_of_whole c.parts.result.1.now c.parts.result.0.now c.args.log.now.items c.parts.ensures
