use Rattle.file_paths.specs.Resolving.{resolved}
use Rattle.file_paths.proofs.resolve.resolved.Goals as goal

pub returns : goal.returns
unfolding resolved
returns c = c.resolve.ensures
