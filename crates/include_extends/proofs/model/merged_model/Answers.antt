use Rattle.std.proofs.Common.{Option, subst}
use Rattle.include_extends.specs.Merged.{model_under}
use Rattle.loaded_files.specs.Reads.{Gives}
use Rattle.include_extends.proofs.Files.{no_variables, variables_there}
use Rattle.outside_files.specs.Files.{Contents}
use Rattle.include_extends.proofs.model.merged_model.Goals as goal

pub returns-in-Ok-clause-given : goal.returns-in-Ok-clause-given
returns-in-Ok-clause-given g c =
    let a = c.args in
    let told = g.F.Files.told a.files.now in
    let r = c.model_under.result in
    let given =
    subst (λ (t : Option Contents). Gives t r (model_under a.paths.now a.directory.now c.in-Ok.env a.found c.in-Ok.left)) c.in-Ok.ensures.kept c.model_under.ensures.given in
    variables_there told a.paths.now a.directory.now a.env_paths.now a.caller.now a.found a.left c.in-Ok.env c.in-Ok.left r c.in-Ok.ensures.given given

pub returns-in-Err-clause-given : goal.returns-in-Err-clause-given
returns-in-Err-clause-given g c =
    let a = c.args in
    no_variables (g.F.Files.told a.files.now) a.paths.now a.directory.now a.env_paths.now a.caller.now a.found a.left c.in-Err.refusal c.in-Err.ensures.given
