use Rattle.std.proofs.Common.{◌∙◌, sym}
use Rattle.wait_run.proofs.Putting.{refused_else, refused_short}
use Rattle.wait_run.proofs.looking.refused_by.Goals as goal

pub returns-then-is_short : goal.returns-then-is_short
returns-then-is_short c = refused_short c.args.exchange.request c.args.exchange.outcome (sym c.wants_memory-is_short.ensures ∙ c.if-is_short.true)

pub returns-else-is_short : goal.returns-else-is_short
returns-else-is_short c = refused_else c.args.exchange.request c.args.exchange.outcome (sym c.wants_memory-is_short.ensures ∙ c.if-is_short.false)
