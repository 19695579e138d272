use Rattle.std.proofs.Common.{◌∙◌}
use Rattle.project_meaning.proofs.Searching.{searched}
use Rattle.project_meaning.proofs.names.is_in.Goals as goal

pub returns : goal.returns
returns c = λ up. c.is_ok.ensures.value ∙ searched c.args.names.now c.args.name.now c.binary_search.result up c.binary_search.ensures.position c.binary_search.ensures.bound
