use Rattle.std.proofs.Common.{subst}
use Rattle.include_extends.specs.Loading.{loading}
use Rattle.loaded_files.specs.Reads as reads
use Rattle.include_extends.specs.declared.LoadRequest.{LoadRequest}
use Rattle.asked_project.proofs.asking.load_for.Goals as goal

pub returns-in-Ok-clause-given : goal.returns-in-Ok-clause-given
returns-in-Ok-clause-given g c =
    subst (λ (request : LoadRequest). reads.Gives (g.F.Files.told c.args.files.now) c.load-loaded.result (loading request)) c.in-Ok.ensures c.load-loaded.ensures.given
