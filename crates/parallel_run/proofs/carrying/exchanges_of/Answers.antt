use Rattle.std.proofs.Common.{◌∙◌, subst, sym}
use Rattle.ledger_run.specs.Works.{HasOnlySeen}
use Rattle.parallel_run.proofs.carrying.exchanges_of.Goals as goal

pub observed_in-requires : goal.observed_in-requires
observed_in-requires c = subst HasOnlySeen (sym c.finish-declared.ensures.journal) c.requires

pub returns : goal.returns
returns c = λ observed is. c.observed_in.ensures observed (c.finish-declared.ensures.journal ∙ is)
