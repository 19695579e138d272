-- The test is one of being whole and needing nothing.
use Rattle.std.proofs.Common.{sym, ◌∙◌}
use Rattle.cases_runs.proofs.Serial.{acyclic, needs, small, whole}
use Rattle.cases_runs.proofs.whole.is_serial.Goals as goal

pub returns-clause-whole : goal.returns-clause-whole
returns-clause-whole c = λ is. whole c.args.declared.now (sym c.passes.ensures ∙ is)

pub returns-clause-small : goal.returns-clause-small
returns-clause-small c = λ is. small c.args.declared.now (sym c.passes.ensures ∙ is)

pub returns-clause-acyclic : goal.returns-clause-acyclic
returns-clause-acyclic c = λ is. acyclic c.args.declared.now (sym c.passes.ensures ∙ is)

pub returns-clause-needs : goal.returns-clause-needs
returns-clause-needs c = λ is. needs c.args.declared.now (sym c.passes.ensures ∙ is)
