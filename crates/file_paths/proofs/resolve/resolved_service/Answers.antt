use Rattle.file_paths.specs.Resolving.{resolved_service}
use Rattle.file_paths.proofs.resolve.resolved_service.Goals as goal

pub returns : goal.returns
unfolding resolved_service
returns c = c.resolve.ensures
